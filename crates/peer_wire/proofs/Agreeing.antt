-- Two runs of bytes that agree as far as both go. Assumes nothing.
use mathlib.Core.Path.{◌≡◌, refl}
use mathlib.Core.Bool.{Bool, true, false, ◌&&◌}
use mathlib.Core.List.{List, [], ◌∷◌}
use Prim.Native.Nat.{ℕ, zero, suc, ◌<◌}
use native.Mathlib.Omega.{arith}
use borrow.Author.Tests.{eqb-true, eqb-false}
use lib.Dec.{eqb}
use lib.ListN.{length, get_or}
use lib.Seq.{ext_get_or}
use Rattle.peer_wire.specs.Handshake.{agree}

-- ---- what the answer says

-- some byte that both have differs
abbrev pub Differ : List ℕ → List ℕ → Type 0
Differ a b = (i : ℕ) × (i < length a) × (i < length b) × (get_or a i 0 ≡ get_or b i 0 → ⊥)

-- no byte that both have does
abbrev pub Alike : List ℕ → List ℕ → Type 0
Alike a b = (i : ℕ) → i < length a → i < length b → get_or a i 0 ≡ get_or b i 0

later : (x y : ℕ) (a b : List ℕ) → Differ a b → Differ (x ∷ a) (y ∷ b)
later x y a b (i, h, g, d) = (suc i, omega arith, omega arith, d)

pub agree-false : (a b : List ℕ) → agree a b ≡ false → Differ a b
agree-false [] b e = let z : ◌≡◌ {A = ℕ} 0 1 = cc in absurd (omega arith)
agree-false (x ∷ a) [] e = let z : ◌≡◌ {A = ℕ} 0 1 = cc in absurd (omega arith)
agree-false (x ∷ a) (y ∷ b) e = go (eqb x y) refl e (agree-false a b)
  where
    go : (t : Bool) → eqb x y ≡ t → (t && agree a b) ≡ false → (agree a b ≡ false → Differ a b) → Differ (x ∷ a) (y ∷ b)
    go true f g r = later x y a b (r g)
    go false f g r = (0, omega arith, omega arith, eqb-false x y f)

pub agree-true : (a b : List ℕ) → agree a b ≡ true → Alike a b
agree-true [] b e i h g = absurd (omega arith)
agree-true (x ∷ a) [] e i h g = absurd (omega arith)
agree-true (x ∷ a) (y ∷ b) e i h g = go (eqb x y) refl e i h g (agree-true a b)
  where
    go : (t : Bool) → eqb x y ≡ t → (t && agree a b) ≡ true → (j : ℕ) → j < suc (length a) → j < suc (length b) → (agree a b ≡ true → Alike a b)
        → get_or (x ∷ a) j 0 ≡ get_or (y ∷ b) j 0
    go true f k zero h g r = eqb-true x y f
    go true f k (suc j) h g r = r k j (omega arith) (omega arith)
    go false f k j h g r = let z : ◌≡◌ {A = ℕ} 0 1 = cc in absurd (omega arith)

module _ (a b : List ℕ) where
  pub agree-if : Alike a b → agree a b ≡ true
  agree-if h = go (agree a b) refl
    where
      out : Differ a b → ⊥
      out (i, l, g, d) = d (h i l g)

      go : (t : Bool) → agree a b ≡ t → t ≡ true
      go true e = refl
      go false e = absurd (out (agree-false a b e))

  pub agree-not : Differ a b → agree a b ≡ false
  agree-not (i, l, g, d) = go (agree a b) refl
    where
      go : (t : Bool) → agree a b ≡ t → t ≡ false
      go true e = absurd (d (agree-true a b e i l g))
      go false e = refl

  -- runs of one length agree exactly where they are equal
  pub agree-equal : length a ≡ length b → agree a b ≡ true → a ≡ b
  agree-equal l e = ext_get_or 0 a b l (λ i h. agree-true a b e i h (omega arith))

  pub equal-agree : a ≡ b → agree a b ≡ true
  equal-agree e = agree-if (λ i h g. rw e)
