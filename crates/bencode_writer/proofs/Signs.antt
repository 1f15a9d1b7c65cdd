-- An integer in bencode, by its sign. Assumes nothing.
use Rattle.std.proofs.Common.{◌≡◌, refl, true, false, [], ◌∷◌, ◌++◌, ℕ, arith, ℤ, pos, negsuc, nat_abs}
use borrow.Author.Tests.{ltb-true}
use lib.Signed.{lt_z}
use Rattle.bencode_scalar.specs.Written.{decimal, written_int}

pub written_below : (z : ℤ) → lt_z z (pos 0) ≡ true → written_int z ≡ (105 ∷ 45 ∷ []) ++ (decimal (nat_abs z) ++ (101 ∷ []))
written_below (pos n) h = absurd (omega (arith, ltb-true n 0 h))
written_below (negsuc n) h = refl

pub written_from : (z : ℤ) → lt_z z (pos 0) ≡ false → written_int z ≡ (105 ∷ []) ++ (decimal (nat_abs z) ++ (101 ∷ []))
written_from (pos n) h = refl
written_from (negsuc n) h = let e : ◌≡◌ {A = ℕ} 0 1 = cc in absurd (omega arith)
