-- Two lists of bytes are the same exactly when they are equal. Assumes nothing.
use Rattle.std.proofs.Common.{◌≡◌, refl, sym, ap, ◌∙◌, Bool, true, false, ◌&&◌, List, [], ◌∷◌, ℕ, arith, eq-eqb, eqb-true, eqb}
use lib.Pointwise.{pointwise}
use Rattle.hash_sha1.specs.Digest.{same}

pub same_refl : (x : List ℕ) → same x x ≡ true
unfolding same
same_refl [] = refl
same_refl (a ∷ x) = rw (eq-eqb a a refl) (same_refl x)

pub same-equal : (x y : List ℕ) → same x y ≡ true → x ≡ y
unfolding same
same-equal [] [] e = refl
same-equal [] (b ∷ y) e = let z : ◌≡◌ {A = ℕ} 0 1 = cc in absurd (omega arith)
same-equal (a ∷ x) [] e = let z : ◌≡◌ {A = ℕ} 0 1 = cc in absurd (omega arith)
same-equal (a ∷ x) (b ∷ y) e = go (eqb a b) refl (same-equal x y) e
  where
    go : (t : Bool) → eqb a b ≡ t → (same x y ≡ true → x ≡ y) → (t && same x y) ≡ true → a ∷ x ≡ b ∷ y
    go true f more g = let h : a ≡ b = eqb-true a b f in let k : x ≡ y = more g in cc
    go false f more g = let z : ◌≡◌ {A = ℕ} 0 1 = cc in absurd (omega arith)

-- a test that is passed exactly by equal lists is this one
pub same_test : (x y : List ℕ) (t : Bool) → (t ≡ true → x ≡ y) → (x ≡ y → t ≡ true) → t ≡ same x y
same_test x y t p q = go (same x y) refl t p q
  where
    go : (s : Bool) → same x y ≡ s → (t : Bool) → (t ≡ true → x ≡ y) → (x ≡ y → t ≡ true) → t ≡ s
    go true e t p q = q (same-equal x y e)
    go false e false p q = refl
    go false e true p q = sym (same_refl x) ∙ ap (same x) (p refl) ∙ e

-- `==` at slices is this one
pub same-pointwise : (x y : List ℕ) → pointwise eqb x y ≡ same x y
unfolding same
same-pointwise [] [] = refl
same-pointwise [] (b ∷ y) = refl
same-pointwise (a ∷ x) [] = refl
same-pointwise (a ∷ x) (b ∷ y) = ap (λ (t : Bool). eqb a b && t) (same-pointwise x y)
