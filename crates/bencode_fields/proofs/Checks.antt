-- A check, and what it takes and refuses: how checks are put together. Assumes nothing.
use mathlib.Core.Path.{◌≡◌, refl, sym, ap, ◌∙◌, subst}
use mathlib.Core.Bool.{Bool, true, false, cond}
use mathlib.Core.Logic.{◌⊎◌, inl, inr, ⊎_elim}
use Prim.Native.Nat.{ℕ}
use Rattle.refusal.specs.Paper.{Outcome, taken, refused, map, then}
use Rattle.refusal.proofs.Cases.{no_way}
use Rattle.refusal.proofs.Outcomes.{then-taken, then-refused, map-taken, map-refused, same-refusal}

-- what is handed back is what was there
abbrev pub Same : {A : Type 0} → A → A → Type 0
Same x m = x ≡ m

-- the outcome o is taken exactly for what Is says, as Shows says, and refused exactly for what Fails says
pub record Checks {A M : Type 0} (o : Outcome A) (Is : M → Type 0) (Shows : A → M → Type 0) (Fails : ℕ → ℕ → Type 0) : Type 0 where
  pub only : (x : A) → o ≡ taken x → (m : M) × Is m × Shows x m
  pub every : (m : M) → Is m → (x : A) × (o ≡ taken x) × Shows x m
  pub blames : (n p : ℕ) → o ≡ refused n p → Fails n p
  pub refuses : (n p : ℕ) → Fails n p → o ≡ refused n p

-- a check that fails
pub checks-refused : {A M : Type 0} {k q : ℕ} {Is : M → Type 0} {Shows : A → M → Type 0} {Fails : ℕ → ℕ → Type 0} → ((m : M) → Is m → ⊥) → Fails k q → ((n p : ℕ) → Fails n p → (n ≡ k) × (p ≡ q))
    → Checks (refused k q) Is Shows Fails
checks-refused {A} {M} {k} {q} {Is} {Shows} {Fails} none f one = record {
  only = λ x e. no_way (cc);
  every = λ m h. absurd (none m h);
  blames = λ n p e. let s = same-refusal e in subst (λ (j : ℕ). Fails n j) s.1 (subst (λ (j : ℕ). Fails j q) s.0 f);
  refuses = λ n p h. let z = one n p h in let a = z.0 in let b = z.1 in rw (a, b);
}

-- a check that takes y, which is m
pub checks-taken : {A M : Type 0} {y : A} {Is : M → Type 0} {Shows : A → M → Type 0} {Fails : ℕ → ℕ → Type 0} (m : M) → Is m → Shows y m → ((k : M) → Is k → k ≡ m) → ((n p : ℕ) → Fails n p → ⊥)
    → Checks (taken y) Is Shows Fails
checks-taken {A} {M} {y} {Is} {Shows} {Fails} m i s one none = record {
  only = λ x e. let a : y ≡ x = cc in (m, i, subst (λ z. Shows z m) a s);
  every = λ k h. (y, refl, subst (λ z. Shows y z) (sym (one k h)) s);
  blames = λ n p e. no_way (cc);
  refuses = λ n p h. absurd (none n p h);
}

-- the same, said otherwise
pub checks-as : {A M N : Type 0} {o : Outcome A} {Is : M → Type 0} {Shows : A → M → Type 0} {Fails : ℕ → ℕ → Type 0} {Is' : N → Type 0} {Shows' : A → N → Type 0} {Fails' : ℕ → ℕ → Type 0} → Checks o Is Shows Fails
    → ((x : A) (m : M) → Is m → Shows x m → (n : N) × Is' n × Shows' x n) → ((n : N) → Is' n → (m : M) × Is m × ((x : A) → Shows x m → Shows' x n))
    → ((n p : ℕ) → Fails n p → Fails' n p) → ((n p : ℕ) → Fails' n p → Fails n p) → Checks o Is' Shows' Fails'
checks-as c a b f g = record {
  only = λ x e. let h = c.only x e in a x h.0 h.1 h.2;
  every = λ n i. let h = b n i in let k = c.every h.0 h.1 in (k.0, k.1, h.2 k.0 k.2);
  blames = λ n p e. f n p (c.blames n p e);
  refuses = λ n p h. c.refuses n p (g n p h);
}

pub checks-is : {A M : Type 0} {o : Outcome A} {Is : M → Type 0} {Shows : A → M → Type 0} {Fails : ℕ → ℕ → Type 0} {Is' : M → Type 0} → Checks o Is Shows Fails
    → ((m : M) → Is m → Is' m) → ((m : M) → Is' m → Is m) → Checks o Is' Shows Fails
checks-is c a b = checks-as c (λ x m i s. (m, a m i, s)) (λ m i. (m, b m i, λ x s. s)) (λ n p h. h) (λ n p h. h)

pub checks-shows : {A M : Type 0} {o : Outcome A} {Is : M → Type 0} {Shows : A → M → Type 0} {Fails : ℕ → ℕ → Type 0} {Shows' : A → M → Type 0} → Checks o Is Shows Fails
    → ((x : A) (m : M) → Is m → Shows x m → Shows' x m) → Checks o Is Shows' Fails
checks-shows c a = checks-as c (λ x m i s. (m, i, a x m i s)) (λ m i. (m, i, λ x s. a x m i s)) (λ n p h. h) (λ n p h. h)

-- a test that decides what Good says
pub data Fault (Good : Type 0) (k q : ℕ) : ℕ → ℕ → Type 0 where
  fault : (Good → ⊥) → Fault Good k q k q

pub checks-if : {A Good : Type 0} {k q : ℕ} (Shows : A → Type 0) (x : A) (b : Bool) → (b ≡ true → Good) → (Good → b ≡ true) → Shows x
    → Checks {M = Unit {0}} (cond b (taken x) (refused k q)) (λ u. Good) (λ y u. Shows y) (Fault Good k q)
checks-if {A} {Good} {k} {q} Shows x b is be sh = go b is be
  where
    one : (n p : ℕ) → Fault Good k q n p → (n ≡ k) × (p ≡ q)
    one n p (fault h) = (refl, refl)

    none : Good → (n p : ℕ) → Fault Good k q n p → ⊥
    none g n p (fault h) = h g

    go : (c : Bool) → (c ≡ true → Good) → (Good → c ≡ true) → Checks {M = Unit {0}} (cond c (taken x) (refused k q)) (λ u. Good) (λ y u. Shows y) (Fault Good k q)
    go true i j = checks-taken tt (i refl) sh (λ u g. refl) (none (i refl))
    go false i j = checks-refused (λ u g. no_way (let e = j g in cc)) (fault (λ g. no_way (let e = j g in cc))) one

-- ---- one check, and then another of what it took

module _ {A B M N : Type 0} {o : Outcome A} {g : A → Outcome B} {Is : M → Type 0} {Shows : A → M → Type 0} {Fails : ℕ → ℕ → Type 0} {Is' : M → N → Type 0} {Shows' : M → B → N → Type 0} {Fails' : M → ℕ → ℕ → Type 0} (c : Checks o Is Shows Fails) (d : (x : A) (m : M) → Is m → Shows x m → Checks (g x) (Is' m) (Shows' m) (Fails' m)) where
  -- the first fails, or it is passed and the second fails
  abbrev Either : ℕ → ℕ → Type 0
  Either n p = Fails n p ⊎ ((m : M) × Is m × Fails' m n p)

  then-only : (y : B) → then o g ≡ taken y → (k : M × N) × (Is k.0 × Is' k.0 k.1) × Shows' k.0 y k.1
  then-only y e =
      let t = then-taken o g y e in
      let a = c.only t.0 t.1 in
      let b = (d t.0 a.0 a.1 a.2).only y t.2 in
      ((a.0, b.0), (a.1, b.1), b.2)

  then-every : (k : M × N) → Is k.0 × Is' k.0 k.1 → (y : B) × (then o g ≡ taken y) × Shows' k.0 y k.1
  then-every k i =
      let a = c.every k.0 i.0 in
      let b = (d a.0 k.0 i.0 a.2).every k.1 i.1 in
      (b.0, ap (λ (z : Outcome A). then z g) a.1 ∙ b.1, b.2)

  then-blames : (n p : ℕ) → then o g ≡ refused n p → Either n p
  then-blames n p e =
      ⊎_elim (λ (h : o ≡ refused n p). inl (c.blames n p h))
      (λ (h : (x : A) × (o ≡ taken x) × (g x ≡ refused n p)). let a = c.only h.0 h.1 in inr (a.0, a.1, (d h.0 a.0 a.1 a.2).blames n p h.2))
      (then-refused o g n p e)

  then-refuses : (n p : ℕ) → Either n p → then o g ≡ refused n p
  then-refuses n p (inl h) = ap (λ (z : Outcome A). then z g) (c.refuses n p h)
  then-refuses n p (inr h) =
      let a = c.every h.0 h.1 in
      ap (λ (z : Outcome A). then z g) a.1 ∙ (d a.0 h.0 h.1 a.2).refuses n p h.2

  pub checks-then : Checks {M = M × N} (then o g) (λ k. Is k.0 × Is' k.0 k.1) (λ y k. Shows' k.0 y k.1) Either
  checks-then = record { only = then-only; every = then-every; blames = then-blames; refuses = then-refuses }

-- the same where the first hands back what it found
pub checks-of : {A B N : Type 0} {o : Outcome A} {g : A → Outcome B} {Is : A → Type 0} {Fails : ℕ → ℕ → Type 0} {Is' : A → N → Type 0} {Shows' : A → B → N → Type 0} {Fails' : A → ℕ → ℕ → Type 0} → Checks o Is Same Fails
    → ((m : A) → Is m → Checks (g m) (Is' m) (Shows' m) (Fails' m)) → Checks {M = A × N} (then o g) (λ k. Is k.0 × Is' k.0 k.1) (λ y k. Shows' k.0 y k.1) (λ n p. Fails n p ⊎ ((m : A) × Is m × Fails' m n p))
checks-of {A} {B} {N} {o} {g} {Is} {Fails} {Is'} {Shows'} {Fails'} c d = checks-then c (λ x m i s. subst (λ (z : A). Checks (g z) (Is' m) (Shows' m) (Fails' m)) (sym s) (d m i))

pub checks-map : {A B M : Type 0} (f : A → B) {o : Outcome A} {Is : M → Type 0} {Shows : A → M → Type 0} {Shows' : B → M → Type 0} {Fails : ℕ → ℕ → Type 0} → Checks o Is Shows Fails
    → ((x : A) (m : M) → Is m → Shows x m → Shows' (f x) m) → Checks (map f o) Is Shows' Fails
checks-map f {o} {Is} {Shows} {Shows'} {Fails} c a = record {
  only = λ y e. let t = map-taken f o y e in let h = c.only t.0 t.1 in (h.0, h.1, subst (λ z. Shows' z h.0) t.2 (a t.0 h.0 h.1 h.2));
  every = λ m i. let h = c.every m i in (f h.0, ap (map f) h.1, a h.0 m i h.2);
  blames = λ n p e. c.blames n p (map-refused f o n p e);
  refuses = λ n p h. ap (map f) (c.refuses n p h);
}

-- the last check
pub checks-last : {A B M : Type 0} (f : A → B) {o : Outcome A} {Is : M → Type 0} {Shows : A → M → Type 0} {Shows' : B → M → Type 0} {Fails : ℕ → ℕ → Type 0} → Checks o Is Shows Fails
    → ((x : A) (m : M) → Is m → Shows x m → Shows' (f x) m) → Checks (then o (λ x. taken (f x))) Is Shows' Fails
checks-last {A} f {o} {Is} {Shows} {Shows'} {Fails} c a = subst (λ z. Checks z Is Shows' Fails) (then_map o) (checks-map f c a)
  where
    then_map : (o : Outcome A) → map f o ≡ then o (λ x. taken (f x))
    then_map (taken x) = refl
    then_map (refused n p) = refl
