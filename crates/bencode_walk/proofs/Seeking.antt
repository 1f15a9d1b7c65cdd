-- The search for a key, as the code goes through it. Assumes nothing.
use Rattle.std.specs.Prelude.{Err, Ok}
use mathlib.Core.Path.{◌≡◌, refl, sym, ap, ◌∙◌, subst}
use mathlib.Core.Bool.{Bool, true, false, cond}
use mathlib.Core.List.{List, [], ◌∷◌}
use Prim.Native.Nat.{ℕ, zero, suc, ◌+◌, ◌<◌, ◌≤◌, pred}
use native.Mathlib.Omega.{arith}
use lib.Dec.{ltb, eqb}
use lib.IntN.{ℤ}
use lib.ListN.{length, take, drop, length-append, length-drop, drop_of_length-le}
use borrow.Author.Tests.{lt-ltb, le-ltb, ltb-true, ltb-false, ne_eqb, eq-eqb}
use Rattle.std.proofs.Common.{Less, Equal, Greater, nat_cmp}
use Rattle.std.specs.Cmp.Lexicographic.{slice_cmp}
use Rattle.std.proofs.lemmas.Slice.Eq.{slice_eq-Decides}
use Rattle.std.proofs.lemmas.Bool.Decides.{Decides-eqb, not_from_Decides}
use lib.Pointwise.{pointwise}
use Rattle.refusal.specs.Paper.{paper, Outcome, taken, refused, refusal, then}
use Rattle.refusal.specs.Limits.{most_text}
use Rattle.refusal.specs.declared.Refusal.{Refusal}
use Rattle.refusal.specs.declared.Part.{Part}
use Rattle.refusal.proofs.Cases.{no_way, by-test, less-or}
use Rattle.bencode_scalar.specs.Written.{decimal, in_range, key_lt}
use Rattle.bencode_scalar.specs.Reading.{Got, got, bad, string_at, integer_at}
use Rattle.bencode_scalar.proofs.Ordering.{key-same, key-irreflexive}
use Rattle.bencode_scalar.proofs.Sound.{Holds, at_left, TextP, string_at-sound}
use Rattle.bencode.proofs.Complete.{encode-pos}
use Rattle.bencode.specs.Value.{encode}
use Rattle.bencode_walk.specs.Walk.{Head, string, integer, long, list, dictionary, end, string_head, integer_head, look_at_of, look_of, NextEntry, key, as_entry, entry_paper, entry_of, skip_of, found, missing, seek_by, seek_of}
use Rattle.bencode_walk.specs.declared.Next.TheVariants.{Key, Close}
use Rattle.bencode_walk.proofs.Seeing.{by_head}
use Rattle.bencode_walk.proofs.Standing.{room, skip-stands}

-- what is seen ends further on, within the text
abbrev Further : List ℕ → ℕ → Outcome Head → Type 0
Further s p (taken (string a m q)) = (p < q) × (q ≤ length s)
Further s p (taken (integer z q)) = Unit
Further s p (taken (long a m q)) = Unit
Further s p (taken (list q)) = Unit
Further s p (taken (dictionary q)) = Unit
Further s p (taken (end q)) = Unit
Further s p (refused r o) = Unit

string-by : (s : List ℕ) (p : ℕ) → p ≤ length s → (g : Got (List ℕ)) → Holds (TextP (drop p s) p 0) g → Further s p (string_head g)
string-by s p h (got k r q n) t =
    let e : q + length r ≡ length s = at_left t.0 (omega (arith, length-drop p s)) in
    (omega (arith, t.0.place, length-append (decimal (length k)) (58 ∷ k)), omega arith)
string-by s p h (bad r q) t = tt

integer-by : (s : List ℕ) (p : ℕ) (g : Got ℤ) → Further s p (integer_head p g)
integer-by s p (got z l q n) = by-test (λ (h : Head). Further s p (taken h)) (in_range z) (λ e. tt) (λ e. tt)
integer-by s p (bad r q) = tt

look-further : (s : List ℕ) (p b : ℕ) → p ≤ length s → Further s p (look_at_of s p b)
look-further s p b h =
    by-test (Further s p) (eqb b 105) (λ e. integer-by s p (integer_at (length s) (drop p s) p 0)) (λ e.
    by-test (Further s p) (eqb b 108) (λ e. tt) (λ e.
    by-test (Further s p) (eqb b 100) (λ e. tt) (λ e.
    by-test (Further s p) (eqb b 101) (λ e. tt) (λ e.
    string-by s p h (string_at (length s) (drop p s) p 0) (string_at-sound (length s) (drop p s) p 0 (omega (arith, length-drop p s)))))))

head-further : (s : List ℕ) (p : ℕ) → p ≤ length s → (l : List ℕ) → Further s p (by_head s p l)
head-further s p h [] = tt
head-further s p h (b ∷ t) = look-further s p b h

-- past the end nothing stands
nothing-further : (s : List ℕ) (p : ℕ) → length s ≤ p → Further s p (by_head s p (drop p s))
nothing-further s p h = subst (λ (l : List ℕ). Further s p (by_head s p l)) (sym (drop_of_length-le s h)) tt

seen-further : (s : List ℕ) (p : ℕ) → Further s p (look_of s p)
unfolding look_of
seen-further s p = by-test (Further s p) (ltb most_text (length s)) (λ e. tt) (λ e. within (ltb p (length s)) refl)
  where
    within : (t : Bool) → ltb p (length s) ≡ t → Further s p (by_head s p (drop p s))
    within true x = head-further s p (omega (arith, ltb-true p (length s) x)) (drop p s)
    within false x = nothing-further s p (ltb-false p (length s) x)

key-by : (s : List ℕ) (p : ℕ) (o : Outcome Head) → Further s p o → (a m q : ℕ) → then o (as_entry p) ≡ taken (key a m q) → (p < q) × (q ≤ length s)
key-by s p (taken (string b n r)) h a m q e = let x : r ≡ q = cc in (omega arith, omega arith)
key-by s p (taken (integer z r)) h a m q e = absurd (let z : ◌≡◌ {A = ℕ} 0 1 = cc in omega arith)
key-by s p (taken (long b n r)) h a m q e = absurd (let z : ◌≡◌ {A = ℕ} 0 1 = cc in omega arith)
key-by s p (taken (list r)) h a m q e = absurd (let z : ◌≡◌ {A = ℕ} 0 1 = cc in omega arith)
key-by s p (taken (dictionary r)) h a m q e = absurd (let z : ◌≡◌ {A = ℕ} 0 1 = cc in omega arith)
key-by s p (taken (end r)) h a m q e = absurd (let z : ◌≡◌ {A = ℕ} 0 1 = cc in omega arith)
key-by s p (refused r o) h a m q e = absurd (let z : ◌≡◌ {A = ℕ} 0 1 = cc in omega arith)

-- a key's value stands further on, and what follows it further still
pub key-further : (s : List ℕ) (p a m q : ℕ) → entry_of s p ≡ taken (key a m q) → (p < q) × (q ≤ length s)
key-further s p a m q e = key-by s p (look_of s p) (seen-further s p) a m q e

pub skip-further : (s : List ℕ) (p q : ℕ) → skip_of s p ≡ taken q → (p < q) × (q ≤ length s)
skip-further s p q e =
    let v = skip-stands s p q e in
    let r = room s p (encode v.0) v.1.rest v.1.inside v.1.text in
    (omega (arith, v.2, encode-pos v.0), omega (arith, v.2))

-- ---- two keys

-- the library's order of two lists of bytes is that of keys
cmp_key : (a b : List ℕ) → slice_cmp nat_cmp a b ≡ cond (key_lt a b) Less (cond (key_lt b a) Greater Equal)
unfolding key_lt
cmp_key [] [] = refl
cmp_key [] (y ∷ ys) = refl
cmp_key (x ∷ xs) [] = refl
cmp_key (x ∷ xs) (y ∷ ys) =
    less-or
    x
    y
    (λ h. rw (lt-ltb x y h))
    (λ h. less-or y x (λ k. rw (le-ltb x y h, lt-ltb y x k, ne_eqb x y (λ e. omega arith))) (λ k. let e : x ≡ y = omega arith in rw (e, le-ltb y y (omega arith), eq-eqb y y refl, cmp_key xs ys)))

module _ (a b : List ℕ) where
  is-before : Less ≡ slice_cmp nat_cmp a b → key_lt a b ≡ true
  is-before e = go (key_lt a b) (key_lt b a) (e ∙ cmp_key a b)
    where
      go : (x y : Bool) → Less ≡ cond x Less (cond y Greater Equal) → x ≡ true
      go true y g = refl
      go false true g = no_way (cc)
      go false false g = no_way (cc)

  is_same : Equal ≡ slice_cmp nat_cmp a b → (key_lt a b ≡ false) × (key_lt b a ≡ false)
  is_same e = go (key_lt a b) (key_lt b a) (e ∙ cmp_key a b)
    where
      go : (x y : Bool) → Equal ≡ cond x Less (cond y Greater Equal) → (x ≡ false) × (y ≡ false)
      go true y g = no_way (cc)
      go false true g = no_way (cc)
      go false false g = (refl, refl)

  is-after : Greater ≡ slice_cmp nat_cmp a b → (key_lt a b ≡ false) × (key_lt b a ≡ true)
  is-after e = go (key_lt a b) (key_lt b a) (e ∙ cmp_key a b)
    where
      go : (x y : Bool) → Greater ≡ cond x Less (cond y Greater Equal) → (x ≡ false) × (y ≡ true)
      go true y g = no_way (cc)
      go false true g = (refl, refl)
      go false false g = no_way (cc)

  -- as the code tells them apart: by the order of keys, and else by their bytes
  pub before-by : key_lt a b ≡ true → Less ≡ slice_cmp nat_cmp a b
  before-by e = sym (cmp_key a b ∙ rw e)

  pub same_by : {t : Bool} → t ≡ pointwise eqb a b → t ≡ true → Equal ≡ slice_cmp nat_cmp a b
  same_by {t} d x =
      let e : a ≡ b = (slice_eq-Decides Decides-eqb a b t d).0 x in
      subst (λ (k : List ℕ). Equal ≡ slice_cmp nat_cmp a k) e (sym (cmp_key a a ∙ rw (key-irreflexive a)))

  pub after-by : key_lt a b ≡ false → {t : Bool} → t ≡ pointwise eqb a b → t ≡ false → Greater ≡ slice_cmp nat_cmp a b
  after-by e {t} d x = go (key_lt b a) refl
    where
      go : (y : Bool) → key_lt b a ≡ y → Greater ≡ slice_cmp nat_cmp a b
      go true f = sym (cmp_key a b ∙ rw (e, f))
      go false f = absurd (not_from_Decides t (slice_eq-Decides Decides-eqb a b t d) x (key-same a b e f))

module _ (s k : List ℕ) where
  -- one turn of the search
  seek-open : (f p : ℕ) → 0 < f → seek_of f s p k ≡ then (entry_of s p) (seek_by s p k (λ q. seek_of (pred f) s q k))
  unfolding seek_of
  seek-open zero p h = absurd (omega arith)
  seek-open (suc f) p h = refl

  -- the search that began at `at` goes on at p
  pub record Seeking (at p : ℕ) : Type 0 where
    pub left : ℕ
    pub some : 0 < left
    pub enough : length s < p + left
    pub same : seek_of left s p k ≡ seek_of (suc (length s)) s at k

  pub seeking-start : (at : ℕ) → Seeking at at
  seeking-start at = record { left = suc (length s); some = omega arith; enough = omega arith; same = refl }

  module _ (at p : ℕ) (t : Seeking at p) where
    turn : (d : Outcome NextEntry) → d ≡ entry_of s p → then d (seek_by s p k (λ q. seek_of (pred t.left) s q k)) ≡ seek_of (suc (length s)) s at k
    turn d e = ap (λ (o : Outcome NextEntry). then o (seek_by s p k (λ q. seek_of (pred t.left) s q k))) e ∙ sym (seek-open t.left p t.some) ∙ t.same

    pub seek-close : (q : ℕ) → entry_paper (Ok (Close q)) ≡ entry_of s p → taken (missing p) ≡ seek_of (suc (length s)) s at k
    seek-close q e = turn (entry_paper (Ok (Close q))) e

    pub seek-not : (r : Refusal) → entry_paper (Err r) ≡ entry_of s p → refusal r ≡ seek_of (suc (length s)) s at k
    seek-not r e = turn (entry_paper (Err r)) e

    module _ (j : Part) (q : ℕ) (e : entry_paper (Ok (Key j q)) ≡ entry_of s p) (here : List ℕ) (h : here ≡ take j.len (drop j.from s)) where
      at_key : cond (key_lt here k) (then (skip_of s q) (λ r. seek_of (pred t.left) s r k)) (taken (cond (key_lt k here) (missing p) (found p q))) ≡ seek_of (suc (length s)) s at k
      at_key = rw h (turn (entry_paper (Ok (Key j q))) e)

      pub seek_found : Equal ≡ slice_cmp nat_cmp here k → taken (found p q) ≡ seek_of (suc (length s)) s at k
      seek_found x = (rw ((is_same here k x).0, (is_same here k x).1) at at_key)

      pub seek-passed : Greater ≡ slice_cmp nat_cmp here k → taken (missing p) ≡ seek_of (suc (length s)) s at k
      seek-passed x = (rw ((is-after here k x).0, (is-after here k x).1) at at_key)

      on : key_lt here k ≡ true → then (skip_of s q) (λ r. seek_of (pred t.left) s r k) ≡ seek_of (suc (length s)) s at k
      on x = rw x at at_key

      pub seek-unread : Less ≡ slice_cmp nat_cmp here k → (r : Refusal) → paper (Err r) ≡ skip_of s q → refusal r ≡ seek_of (suc (length s)) s at k
      seek-unread x r y = ap (λ (o : Outcome ℕ). then o (λ i. seek_of (pred t.left) s i k)) y ∙ on (is-before here k x)

      pub seek-more : Less ≡ slice_cmp nat_cmp here k → (next : ℕ) → paper (Ok next) ≡ skip_of s q → (p < next) × (next ≤ length s) × Seeking at next
      seek-more x next y =
          let a = key-further s p j.from j.len q (sym e) in
          let b = skip-further s q next (sym y) in (
            omega arith,
            b.1,
            record { left = pred t.left; some = omega (arith, t.enough); enough = omega (arith, t.enough); same = ap (λ (o : Outcome ℕ). then o (λ i. seek_of (pred t.left) s i k)) y ∙ on (is-before here k x) },
          )
