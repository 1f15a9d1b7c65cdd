-- The fields of a week's file, both ways: what is taken stands there, what stands there is taken, and a refusal has its cause. Assumes nothing.
use mathlib.Core.Path.{◌≡◌, refl, sym, ap, ◌∙◌, subst}
use mathlib.Core.Logic.{◌⊎◌, inl, inr}
use mathlib.Core.Bool.{Bool, true, false, cond, ◌&&◌, not}
use mathlib.Core.List.{List}
use mathlib.Core.List.Memᴰ
use mathlib.Core.List.{Memᴰ as In}
use Prim.Native.Nat.{ℕ, zero, suc, ◌+◌, ◌<◌, ◌≤◌}
use native.Mathlib.Omega.{arith}
use lib.Dec.{eqb, leb, ltb}
use lib.ListN.{length, take, drop}
use borrow.Author.Tests.{leb-true, le-leb, lt-leb, eqb-true, eq-eqb, ltb-true, ltb-false, not-true}
use Rattle.refusal.specs.BigEndian.{big_endian_of, fits}
use Rattle.refusal.specs.Limits.{most_text, most_packages}
use Rattle.refusal.specs.Numbers.{week, long}
use Rattle.refusal.specs.Paper.{Outcome, taken, refused, then}
use Rattle.refusal.proofs.Cases.{no_way, both, both_true, by_bool, less-or}
use Rattle.refusal.proofs.Outcomes.{not_taken}
use Rattle.bencode.specs.Decode.{unless_long}
use Rattle.bencode_fields.proofs.Checks.{Checks, Same, checks-refused, checks-as, Fault, fault, checks-if, checks-of}
use Rattle.torrent_metainfo.specs.Rules.{provided}
use Rattle.week.specs.Rules.{offset_place, length_place, hash_place, field_at, count_of, runs_at, hash_at, hashes_before, among, entry_of}
use Rattle.week_laws.proofs.Among.{among-not, not-among}
use Rattle.week_laws.specs.Causes.{Number, Counts, EntryAt, NewHash}

-- ---- checks put together

-- a test, and then a check
pub checks-provided : {A M Good : Type 0} {k q : ℕ} {o : Outcome A} {Is : M → Type 0} {Shows : A → M → Type 0} {Fails : ℕ → ℕ → Type 0} (b : Bool) → (b ≡ true → Good) → (Good → b ≡ true)
    → (Good → Checks o Is Shows Fails) → Checks (provided b k q o) (λ m. Good × Is m) Shows (λ n p. Fault Good k q n p ⊎ (Good × Fails n p))
checks-provided {A} {M} {Good} {k} {q} {o} {Is} {Shows} {Fails} b is be c = go b is be
  where
    one : (Good → ⊥) → (n p : ℕ) → Fault Good k q n p ⊎ (Good × Fails n p) → (n ≡ k) × (p ≡ q)
    one z n p (inl (fault h)) = (refl, refl)
    one z n p (inr h) = absurd (z h.0)

    fails : Good → (n p : ℕ) → Fault Good k q n p ⊎ (Good × Fails n p) → Fails n p
    fails g n p (inl (fault h)) = absurd (h g)
    fails g n p (inr h) = h.1

    go : (t : Bool) → (t ≡ true → Good) → (Good → t ≡ true) → Checks (provided t k q o) (λ m. Good × Is m) Shows (λ n p. Fault Good k q n p ⊎ (Good × Fails n p))
    go true i j = let g = i refl in checks-as (c g) (λ x m h s. (m, (g, h), s)) (λ m h. (m, h.1, λ x s. s)) (λ n p h. inr (g, h)) (fails g)
    go false i j = let z : Good → ⊥ = λ g. no_way (let e = j g in cc) in checks-refused (λ m h. z h.0) (inl (fault z)) (one z)

-- a check whose refusals are all one: it is refused exactly where nothing is taken
pub checks-one : {A M : Type 0} {o : Outcome A} {Is : M → Type 0} {Shows : A → M → Type 0} {Fails : ℕ → ℕ → Type 0} (k q : ℕ) → Checks o Is Shows Fails → ((n p : ℕ) → Fails n p → (n ≡ k) × (p ≡ q))
    → Checks o Is Shows (Fault ((m : M) × Is m) k q)
checks-one {A} {M} {o} {Is} {Shows} {Fails} k q c one = record {
  only = c.only;
  every = c.every;
  blames = λ n p e. let z = one n p (c.blames n p e) in subst (λ (j : ℕ). Fault ((m : M) × Is m) k q j p) (sym z.0) (subst (λ (j : ℕ). Fault ((m : M) × Is m) k q k j) (sym z.1) (fault (none e)));
  refuses = by-fault;
}
  where
    none : {n p : ℕ} → o ≡ refused n p → (m : M) × Is m → ⊥
    none e h = let t = c.every h.0 h.1 in not_taken (sym e ∙ t.1)

    go : (x : Outcome A) → o ≡ x → ((m : M) × Is m → ⊥) → o ≡ refused k q
    go (taken x) e h = let t = c.only x e in absurd (h (t.0, t.1))
    go (refused n p) e h = let z = one n p (c.blames n p e) in e ∙ (let a = z.0 in let b = z.1 in rw (a, b))

    by-fault : (n p : ℕ) → Fault ((m : M) × Is m) k q n p → o ≡ refused n p
    by-fault n p (fault h) = go o refl h

-- nothing of more than 1,048,576 bytes
pub checks-unless : {A M : Type 0} {o : Outcome A} {Is : M → Type 0} {Shows : A → M → Type 0} {Fails : ℕ → ℕ → Type 0} (s : List ℕ) → Checks o Is Shows Fails
    → Checks (unless_long s o) (λ m. (length s ≤ most_text) × Is m) Shows (λ n p. Fault (length s ≤ most_text) long 0 n p ⊎ ((length s ≤ most_text) × Fails n p))
checks-unless {A} {M} {o} {Is} {Shows} {Fails} s c =
    subst (λ (x : Outcome A). Checks x (λ m. (length s ≤ most_text) × Is m) Shows (λ n p. Fault (length s ≤ most_text) long 0 n p ⊎ ((length s ≤ most_text) × Fails n p)))
    (go (ltb most_text (length s)) refl)
    (checks-provided (leb (length s) most_text) (leb-true (length s) most_text) (le-leb (length s) most_text) (λ g. c))
  where
    go : (b : Bool) → ltb most_text (length s) ≡ b → provided (leb (length s) most_text) long 0 o ≡ cond b (refused long 0) o
    go true e = rw (lt-leb (length s) most_text (ltb-true most_text (length s) e))
    go false e = rw (le-leb (length s) most_text (ltb-false most_text (length s) e))

-- ---- a field of four bytes

pub field-checks : (s : List ℕ) (p : ℕ) → Checks (field_at s p) (Number s p) Same (Fault ((x : ℕ) × Number s p x) week p)
unfolding field_at
field-checks s p =
    checks-one week p
    (checks-as (checks-if {Good = p + 4 ≤ length s} (λ (y : ℕ). y ≡ big_endian_of (take 4 (drop p s))) (big_endian_of (take 4 (drop p s))) (leb (p + 4) (length s)) (leb-true (p + 4) (length s)) (le-leb (p + 4) (length s)) refl)
    (λ x u g e. (x, record { there = g; is = sym e }, refl)) (λ x h. (tt, h.there, λ y e. e ∙ h.is)) (λ n q h. h) (λ n q h. h))
    one
  where
    one : (n q : ℕ) → Fault (p + 4 ≤ length s) week p n q → (n ≡ week) × (q ≡ p)
    one n q (fault h) = (refl, refl)

pub number_is : (s : List ℕ) (p x : ℕ) → Number s p x → field_at s p ≡ taken x
number_is s p x h = let t = (field-checks s p).every x h in t.1 ∙ ap taken t.2

-- that is tested, and then another check
pub checks-field : {A M : Type 0} (s : List ℕ) (p : ℕ) (b : ℕ → Bool) (P : ℕ → Type 0) {g : ℕ → Outcome A} {Is : ℕ → M → Type 0} {Shows : ℕ → A → M → Type 0} {Fails : ℕ → ℕ → ℕ → Type 0}
    → ((x : ℕ) → b x ≡ true → P x) → ((x : ℕ) → P x → b x ≡ true) → ((x : ℕ) → Number s p x → P x → Checks (g x) (Is x) (Shows x) (Fails x))
    → Checks {M = ℕ × M} (then (field_at s p) (λ x. provided (b x) week p (g x))) (λ k. Number s p k.0 × P k.0 × Is k.0 k.1) (λ y k. Shows k.0 y k.1)
    (λ n q. Fault ((x : ℕ) × Number s p x × P x) week p n q ⊎ ((x : ℕ) × Number s p x × P x × Fails x n q))
checks-field {A} {M} s p b P {g} {Is} {Shows} {Fails} is be c =
    checks-as (checks-of (field-checks s p) (λ x h. checks-provided (b x) (is x) (be x) (c x h))) (λ y k h sh. (k, (h.0, h.1.0, h.1.1), sh)) (λ k h. (k, (h.0, (h.1, h.2)), λ y sh. sh)) to_one from_one
  where
    to_one : (n q : ℕ) → Fault ((x : ℕ) × Number s p x) week p n q ⊎ ((x : ℕ) × Number s p x × (Fault (P x) week p n q ⊎ (P x × Fails x n q)))
        → Fault ((x : ℕ) × Number s p x × P x) week p n q ⊎ ((x : ℕ) × Number s p x × P x × Fails x n q)
    to_one n q (inl (fault h)) = inl (fault (λ k. h (k.0, k.1)))
    to_one n q (inr (x, h, inl (fault f))) = inl (fault (λ k. f (subst P (sym k.1.is ∙ h.is) k.2)))
    to_one n q (inr (x, h, inr (f, e))) = inr (x, h, f, e)

    from_one : (n q : ℕ) → Fault ((x : ℕ) × Number s p x × P x) week p n q ⊎ ((x : ℕ) × Number s p x × P x × Fails x n q)
        → Fault ((x : ℕ) × Number s p x) week p n q ⊎ ((x : ℕ) × Number s p x × (Fault (P x) week p n q ⊎ (P x × Fails x n q)))
    from_one n q (inl (fault h)) =
        by_bool (leb (p + 4) (length s))
        (λ e. let m : Number s p (big_endian_of (take 4 (drop p s))) = record { there = leb-true (p + 4) (length s) e; is = refl } in inr (big_endian_of (take 4 (drop p s)), m, inl (fault (λ f. h (big_endian_of (take 4 (drop p s)), m, f)))))
        (λ e. inl (fault (λ k. no_way (let f = le-leb (p + 4) (length s) k.1.there in cc))))
    from_one n q (inr (x, h, f, e)) = inr (x, h, inr (f, e))

-- ---- how many packages

pub count-checks : (s : List ℕ) → Checks (count_of s) (Counts s) Same (Fault ((n : ℕ) × Counts s n) week 0)
unfolding count_of
count-checks s =
    checks-one week 0
    (checks-as (checks-of (field-checks s 0) (λ n h. checks-if {Good = (1 ≤ n) × (n ≤ most_packages)} (λ (y : ℕ). y ≡ n) n (leb 1 n && leb n most_packages) (in-range n) (range-in n) refl))
    (λ y k h e. (k.0, record { number = h.0; some = h.1.0; few = h.1.1 }, e)) (λ n c. ((n, tt), (c.number, (c.some, c.few)), λ y e. e)) (λ n q h. h) (λ n q h. h))
    one
  where
    in-range : (n : ℕ) → (leb 1 n && leb n most_packages) ≡ true → (1 ≤ n) × (n ≤ most_packages)
    in-range n e = let t = both (leb 1 n) (leb n most_packages) e in (leb-true 1 n t.0, leb-true n most_packages t.1)

    range-in : (n : ℕ) → (1 ≤ n) × (n ≤ most_packages) → (leb 1 n && leb n most_packages) ≡ true
    range-in n h = both_true (leb 1 n) (leb n most_packages) (le-leb 1 n h.0) (le-leb n most_packages h.1)

    one : (n q : ℕ) → Fault ((x : ℕ) × Number s 0 x) week 0 n q ⊎ ((x : ℕ) × Number s 0 x × Fault ((1 ≤ x) × (x ≤ most_packages)) week 0 n q) → (n ≡ week) × (q ≡ 0)
    one n q (inl (fault h)) = (refl, refl)
    one n q (inr (x, h, fault f)) = (refl, refl)

pub counts-is : (s : List ℕ) (n : ℕ) → Counts s n → count_of s ≡ taken n
counts-is s n c = let t = (count-checks s).every n c in t.1 ∙ ap taken t.2

-- ---- a hash given before

-- the hashes before are those of the packages before
pub before-in : (s : List ℕ) (i j : ℕ) (h : List ℕ) → j < i → hash_at s j ≡ h → In h (hashes_before s i)
unfolding runs_at
before-in s zero j h l e = absurd (omega arith)
before-in s (suc i) j h l e =
    less-or j i (λ f. In.tail (before-in s i j h f e)) (λ f. let g : j ≡ i = omega arith in In.head (sym e ∙ ap (hash_at s) g))

pub in-before : (s : List ℕ) (i : ℕ) (h : List ℕ) → In h (hashes_before s i) → (j : ℕ) × (j < i) × (hash_at s j ≡ h)
unfolding runs_at
in-before s zero h m = absurd (Memᴰ.not-nil m)
in-before s (suc i) h m = go (Memᴰ.cases_cons m) (in-before s i h)
  where
    go : (h ≡ hash_at s i) ⊎ In h (hashes_before s i) → (In h (hashes_before s i) → (j : ℕ) × (j < i) × (hash_at s j ≡ h)) → (j : ℕ) × (j < suc i) × (hash_at s j ≡ h)
    go (inl e) r = (i, omega arith, sym e)
    go (inr k) r = let x = r k in (x.0, omega (arith, x.1), x.2)

new_is : (s : List ℕ) (i : ℕ) → not (among (hash_at s i) (hashes_before s i)) ≡ true → NewHash s i
new_is s i e j l f = among-not (hash_at s i) (hashes_before s i) (not-true (among (hash_at s i) (hashes_before s i)) e) (before-in s i j (hash_at s i) l f)

is-new : (s : List ℕ) (i : ℕ) → NewHash s i → not (among (hash_at s i) (hashes_before s i)) ≡ true
is-new s i h = ap not (not-among (hash_at s i) (hashes_before s i) (λ m. let x = in-before s i (hash_at s i) m in h x.0 x.1 x.2))

-- ---- the entry of package i, whose body is to stand at a place

-- its hash is there and new
abbrev pub Fresh : List ℕ → ℕ → Type 0
Fresh s i = (hash_place i + 20 ≤ length s) × NewHash s i

-- the offset is wrong, or it is right and the length is wrong, or both are right and the hash is wrong
abbrev pub BadEntry : List ℕ → ℕ → ℕ → ℕ → ℕ → Type 0
BadEntry s i at n q =
    Fault ((x : ℕ) × Number s (offset_place i) x × (x ≡ at)) week (offset_place i) n q
    ⊎ ((x : ℕ) × Number s (offset_place i) x × (x ≡ at)
    × (Fault ((m : ℕ) × Number s (length_place i) m × (at + m ≤ length s)) week (length_place i) n q
    ⊎ ((m : ℕ) × Number s (length_place i) m × (at + m ≤ length s) × Fault (Fresh s i) week (hash_place i) n q)))

pub entry-checks : (s : List ℕ) (i at : ℕ) → Checks (entry_of s i at) (λ (m : ℕ). EntryAt s i at m × NewHash s i) (λ past m. past ≡ at + m) (BadEntry s i at)
unfolding entry_of
entry-checks s i at =
    checks-as
    (checks-field s (offset_place i) (λ x. eqb x at) (λ x. x ≡ at) (λ x. eqb-true x at) (λ x. eq-eqb x at)
    (λ x hx e. checks-field s (length_place i) (λ m. leb (at + m) (length s)) (λ m. at + m ≤ length s) (λ m. leb-true (at + m) (length s)) (λ m. le-leb (at + m) (length s))
    (λ m hm l. fresh-checks m)))
    (λ y k h e. (k.1.0, (record { offset = subst (Number s (offset_place i)) h.1 h.0; size = h.2.0; inside = h.2.1; hash = h.2.2.0 }, h.2.2.1), e))
    (λ m h. ((at, (m, tt)), (h.0.offset, refl, (h.0.size, h.0.inside, (h.0.hash, h.1))), λ y e. e))
    (λ n q h. h) (λ n q h. h)
  where
    merged : (a b : Bool) (m : ℕ) → provided (a && b) week (hash_place i) (taken (at + m)) ≡ provided a week (hash_place i) (provided b week (hash_place i) (taken (at + m)))
    merged true b m = refl
    merged false b m = refl

    fresh-checks : (m : ℕ) → Checks {M = Unit {0}} (provided (fits 20 s (hash_place i)) week (hash_place i) (provided (not (among (hash_at s i) (hashes_before s i))) week (hash_place i) (taken (at + m)))) (λ u. Fresh s i) (λ y u. y ≡ at + m) (Fault (Fresh s i) week (hash_place i))
    fresh-checks m =
        subst (λ (o : Outcome ℕ). Checks {M = Unit {0}} o (λ u. Fresh s i) (λ y u. y ≡ at + m) (Fault (Fresh s i) week (hash_place i)))
        (merged (fits 20 s (hash_place i)) (not (among (hash_at s i) (hashes_before s i))) m)
        (checks-if (λ (y : ℕ). y ≡ at + m) (at + m) (fits 20 s (hash_place i) && not (among (hash_at s i) (hashes_before s i)))
        (λ e. let t = both (fits 20 s (hash_place i)) (not (among (hash_at s i) (hashes_before s i))) e in (leb-true (hash_place i + 20) (length s) t.0, new_is s i t.1))
        (λ g. both_true (fits 20 s (hash_place i)) (not (among (hash_at s i) (hashes_before s i))) (le-leb (hash_place i + 20) (length s) g.0) (is-new s i g.1)) refl)
