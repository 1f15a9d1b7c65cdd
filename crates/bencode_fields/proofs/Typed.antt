-- The check of a value at a place, or under a key, as the kind that is asked for, both ways: what is taken stands so, what stands so is taken, and a refusal has its cause. Assumes nothing.
use mathlib.Core.Path.{◌≡◌, refl, sym, ap, ◌∙◌, subst}
use mathlib.Core.Logic.{◌⊎◌, inl, inr, ⊎_elim}
use mathlib.Core.Bool.{Bool, true, false, cond}
use mathlib.Core.List.{List}
use Prim.Native.Nat.{ℕ}
use native.Mathlib.Omega.{arith}
use lib.Dec.{leb}
use lib.IntN.{ℤ, pos, negsuc}
use lib.ListN.{length}
use borrow.Author.Tests.{leb-true, leb-false}
use Rattle.refusal.specs.Paper.{Outcome, taken, refused, then}
use Rattle.refusal.specs.Parts.{bytes_at}
use Rattle.refusal.specs.declared.Part.{Part}
use Rattle.refusal.proofs.Cases.{no_way}
use Rattle.refusal.proofs.Outcomes.{same-refusal}
use Rattle.bencode.specs.Value.{Value, Entries, str, int, list, dict, start}
use Rattle.bencode_walk.specs.Stands.{Stands, StandEntries}
use Rattle.bencode_walk.specs.Lookup.{Under, nothing, under, lookup}
use Rattle.bencode_walk.specs.Has.{Has}
use Rattle.bencode_walk.proofs.Finding.{found-stands}
use Rattle.bencode_walk.proofs.Having.{found-has, has-found}
use Rattle.bencode_fields.specs.Values.{string_at, natural_at, list_at_of, dictionary_at, must}
use Rattle.bencode_fields.specs.Causes.{Lacks, missing, wrong, Other, other, NoString, no_string, NoNumber, no-integer, out_of_range, UpTo}
use Rattle.bencode_fields.proofs.Standing.{part_bytes}
use Rattle.bencode_fields.proofs.Checks.{Checks, Same, checks-refused, checks-taken, checks-as, checks-is, checks-of}

-- a part of the text that is these bytes
abbrev pub Shown : List ℕ → Part → List ℕ → Type 0
Shown s x bs = (bytes_at s x ≡ bs) × (x.len ≡ length bs)

-- ---- strings

module _ (s : List ℕ) (e q : ℕ) where
  not-string : (v : Value) → ((bs : List ℕ) → v ≡ str bs → ⊥) → Checks (refused 10 q) (λ bs. v ≡ str bs) (Shown s) (NoString q v)
  not-string v h = checks-refused h (no_string v h) only-kind
    where
      only-kind : (n p : ℕ) → NoString q v n p → (n ≡ 10) × (p ≡ q)
      only-kind n p (no_string w i) = (refl, refl)

  pub string-checks : (v : Value) → Stands s e q v → Checks (string_at q v) (λ bs. v ≡ str bs) (Shown s) (NoString q v)
  string-checks (str bs) t = checks-taken bs refl (part_bytes s e q bs t, refl) (λ cs f. cc) no-fault
    where
      no-fault : (n p : ℕ) → NoString q (str bs) n p → ⊥
      no-fault n p (no_string w i) = i bs refl
  string-checks (int z) t = not-string (int z) (λ bs f. no_way (cc))
  string-checks (list vs) t = not-string (list vs) (λ bs f. no_way (cc))
  string-checks (dict es) t = not-string (dict es) (λ bs f. no_way (cc))

-- ---- numbers, as a range has them

-- the value is the integer n, in the range
abbrev pub Number : (ℕ → Type 0) → Value → ℕ → Type 0
Number R v n = (v ≡ int (pos n)) × R n

module _ (R : ℕ → Type 0) (q : ℕ) where
  pub not-integer : (v : Value) → ((z : ℤ) → v ≡ int z → ⊥) → Checks (refused 10 q) (Number R v) Same (NoNumber R q v)
  not-integer v h = checks-refused (λ n i. h (pos n) i.0) (no-integer v h) (only-kind v h)
    where
      only-kind : (w : Value) → ((z : ℤ) → w ≡ int z → ⊥) → (n p : ℕ) → NoNumber R q w n p → (n ≡ 10) × (p ≡ q)
      only-kind w i n p (no-integer u j) = (refl, refl)
      only-kind w i n p (out_of_range z j) = absurd (i z refl)

  pub not-range : (z : ℤ) → ((n : ℕ) → z ≡ pos n → R n → ⊥) → Checks (refused 11 q) (Number R (int z)) Same (NoNumber R q (int z))
  not-range z h = checks-refused (λ n i. h n (let a = i.0 in cc) i.1) (out_of_range z h) (only-range (int z) refl)
    where
      only-range : (w : Value) → w ≡ int z → (n p : ℕ) → NoNumber R q w n p → (n ≡ 11) × (p ≡ q)
      only-range w f n p (no-integer u j) = absurd (j z f)
      only-range w f n p (out_of_range y j) = (refl, refl)

  pub in-range : (n : ℕ) → R n → Checks (taken n) (Number R (int (pos n))) Same (NoNumber R q (int (pos n)))
  in-range n r = checks-taken n (refl, r) refl (λ m i. let a = i.0 in cc) (no-fault (int (pos n)) refl)
    where
      no-fault : (w : Value) → w ≡ int (pos n) → (m p : ℕ) → NoNumber R q w m p → ⊥
      no-fault w f m p (no-integer u j) = j (pos n) f
      no-fault w f m p (out_of_range y j) = j n (cc) r

pub number-checks : (most q : ℕ) (v : Value) → Checks (natural_at most q v) (Number (UpTo most) v) Same (NoNumber (UpTo most) q v)
number-checks most q (str bs) = not-integer (UpTo most) q (str bs) (λ z f. no_way (cc))
number-checks most q (int (pos n)) = go (leb n most) refl
  where
    go : (b : Bool) → leb n most ≡ b → Checks (cond b (taken n) (refused 11 q)) (Number (UpTo most) (int (pos n))) Same (NoNumber (UpTo most) q (int (pos n)))
    go true f = in-range (UpTo most) q n (leb-true n most f)
    go false f = not-range (UpTo most) q (pos n) (λ m g h. let i = leb-false n most f in let j : n ≡ m = cc in omega arith)
number-checks most q (int (negsuc n)) = not-range (UpTo most) q (negsuc n) (λ m g h. no_way (cc))
number-checks most q (list vs) = not-integer (UpTo most) q (list vs) (λ z f. no_way (cc))
number-checks most q (dict es) = not-integer (UpTo most) q (dict es) (λ z f. no_way (cc))

-- ---- lists and dictionaries

module _ {B : Type 0} (of : B → Value) (q : ℕ) where
  -- a value of another kind, and one of this
  other-kind : (v : Value) → ((b : B) → v ≡ of b → ⊥) → Checks {A = B} (refused 10 q) (λ b. v ≡ of b) Same (Other of q v)
  other-kind v h = checks-refused h (other v h) only-kind
    where
      only-kind : (n p : ℕ) → Other of q v n p → (n ≡ 10) × (p ≡ q)
      only-kind n p (other w i) = (refl, refl)

  this-kind : (b : B) → ((c : B) → of b ≡ of c → c ≡ b) → Checks (taken b) (λ c. of b ≡ of c) Same (Other of q (of b))
  this-kind b one = checks-taken b refl refl one (no-fault (of b) refl)
    where
      no-fault : (v : Value) → v ≡ of b → (n p : ℕ) → Other of q v n p → ⊥
      no-fault v e n p (other w i) = i b e

pub list-checks : (q : ℕ) (v : Value) → Checks (list_at_of q v) (λ vs. v ≡ list vs) Same (Other list q v)
list-checks q (str bs) = other-kind list q (str bs) (λ vs f. no_way (cc))
list-checks q (int z) = other-kind list q (int z) (λ vs f. no_way (cc))
list-checks q (list vs) = this-kind list q vs (λ ws f. cc)
list-checks q (dict es) = other-kind list q (dict es) (λ vs f. no_way (cc))

pub dictionary-checks : (q : ℕ) (v : Value) → Checks (dictionary_at q v) (λ es. v ≡ dict es) Same (Other dict q v)
dictionary-checks q (str bs) = other-kind dict q (str bs) (λ es f. no_way (cc))
dictionary-checks q (int z) = other-kind dict q (int z) (λ es f. no_way (cc))
dictionary-checks q (list vs) = other-kind dict q (list vs) (λ es f. no_way (cc))
dictionary-checks q (dict es) = this-kind dict q es (λ ds f. cc)

-- a value of a kind, and then a check of what it holds
pub kind-checks : {A B M : Type 0} {of : B → Value} {q : ℕ} {v : Value} {o : Outcome B} {g : B → Outcome A} {Is : B → M → Type 0} {Shows : A → M → Type 0} (Fails : Value → ℕ → ℕ → Type 0)
    → Checks o (λ b. v ≡ of b) Same (Other of q v) → ((b : B) → v ≡ of b → Checks (g b) (Is b) Shows (Fails (of b)))
    → (((b : B) → v ≡ of b → ⊥) → Fails v 10 q) → ((n p : ℕ) → Fails v n p → Other of q v n p ⊎ ((b : B) × (v ≡ of b))) → Checks (then o g) (λ m. (b : B) × (v ≡ of b) × Is b m) Shows (Fails v)
kind-checks {A} {B} {M} {of} {q} {v} {o} {g} {Is} {Shows} Fails c d bad cases =
    checks-as (checks-of c d) (λ x k i s. (k.1, (k.0, i.0, i.1), s)) (λ m i. ((i.0, m), (i.1, i.2), λ x s. s))
    (λ n p h. ⊎_elim (by_kind n p) (λ (w : (b : B) × (v ≡ of b) × Fails (of b) n p). subst (λ (u : Value). Fails u n p) (sym w.1) w.2) h)
    (λ n p h. ⊎_elim (λ (w : Other of q v n p). inl w) (λ (w : (b : B) × (v ≡ of b)). inr (w.0, w.1, subst (λ (u : Value). Fails u n p) w.1 h)) (cases n p h))
  where
    by_kind : (n p : ℕ) → Other of q v n p → Fails v n p
    by_kind n p (other w i) = bad i

-- ---- what must be under a key of a dictionary at d, whose entries stand at p

module _ {s : List ℕ} {e p : ℕ} (d : ℕ) {es : Entries} (t : StandEntries s e p start es) (k : List ℕ) where
  module _ {A M : Type 0} {g : ℕ → Value → Outcome A} {Is : Value → M → Type 0} {Shows : A → M → Type 0} {Fails : ℕ → Value → ℕ → ℕ → Type 0} (c : (q : ℕ) (v : Value) → Stands s e q v → Checks (g q v) (Is v) Shows (Fails q v)) where
    stands : (q : ℕ) (v : Value) → lookup p es k ≡ under q v → Checks (g q v) (Is v) Shows (Fails q v)
    stands q v u = c q v (found-stands s e p start es k t q v u)

    must-only : (x : A) (u : Under) → lookup p es k ≡ u → must d u g ≡ taken x → (m : M) × ((v : Value) × Has es k v × Is v m) × Shows x m
    must-only x nothing f h = no_way (cc)
    must-only x (under q v) f h = let a = (stands q v f).only x h in (a.0, (v, found-has p es k q v f, a.1), a.2)

    must-every : (m : M) → (v : Value) × Has es k v × Is v m → (x : A) × (must d (lookup p es k) g ≡ taken x) × Shows x m
    must-every m i =
        let r = has-found p es k i.0 e start i.1 t.keeps in
        let a = (stands r.0 i.0 r.1).every m i.2 in
        (a.0, ap (λ u. must d u g) r.1 ∙ a.1, a.2)

    must-blames : (n q : ℕ) (u : Under) → lookup p es k ≡ u → must d u g ≡ refused n q → Lacks d (lookup p es k) Fails n q
    must-blames n q nothing f h =
        let z = same-refusal h in
        subst (λ (j : ℕ). Lacks d (lookup p es k) Fails n j) z.1 (subst (λ (j : ℕ). Lacks d (lookup p es k) Fails j d) z.0 (missing f))
    must-blames n q (under o v) f h = wrong o v n q f ((stands o v f).blames n q h)

    must-refuses : (n q : ℕ) → Lacks d (lookup p es k) Fails n q → must d (lookup p es k) g ≡ refused n q
    must-refuses n q (missing f) = ap (λ u. must d u g) f
    must-refuses n q (wrong o v m r f h) = ap (λ u. must d u g) f ∙ (stands o v f).refuses m r h

    pub checks-must : Checks (must d (lookup p es k) g) (λ m. (v : Value) × Has es k v × Is v m) Shows (Lacks d (lookup p es k) Fails)
    checks-must = record { only = λ x h. must-only x (lookup p es k) refl h; every = must-every; blames = λ n q h. must-blames n q (lookup p es k) refl h; refuses = must-refuses }

  -- a string, a number, a list, a dictionary
  pub string-under : Checks (must d (lookup p es k) string_at) (λ bs. Has es k (str bs)) (Shown s) (Lacks d (lookup p es k) NoString)
  string-under = checks-is (checks-must (string-checks s e)) (λ bs h. subst (Has es k) h.2 h.1) (λ bs h. (str bs, h, refl))

  pub number-under : {R : ℕ → Type 0} {g : ℕ → Value → Outcome ℕ} → ((q : ℕ) (v : Value) → Checks (g q v) (Number R v) Same (NoNumber R q v))
      → Checks (must d (lookup p es k) g) (λ n. Has es k (int (pos n)) × R n) Same (Lacks d (lookup p es k) (NoNumber R))
  number-under c = checks-is (checks-must (λ q v u. c q v)) (λ n h. (subst (Has es k) h.2.0 h.1, h.2.1)) (λ n h. (int (pos n), h.0, (refl, h.1)))

  pub list-under : Checks (must d (lookup p es k) list_at_of) (λ vs. Has es k (list vs)) Same (Lacks d (lookup p es k) (Other list))
  list-under = checks-is (checks-must (λ q v u. list-checks q v)) (λ vs h. subst (Has es k) h.2 h.1) (λ vs h. (list vs, h, refl))

  pub dictionary-under : Checks (must d (lookup p es k) dictionary_at) (λ ds. Has es k (dict ds)) Same (Lacks d (lookup p es k) (Other dict))
  dictionary-under = checks-is (checks-must (λ q v u. dictionary-checks q v)) (λ ds h. subst (Has es k) h.2 h.1) (λ ds h. (dict ds, h, refl))
