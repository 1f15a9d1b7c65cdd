-- An integer that is seen, as the code takes it and tests it. Assumes nothing.
use mathlib.Core.Path.{◌≡◌, refl}
use mathlib.Core.Bool.{true, false}
use Prim.Native.Nat.{ℕ, ◌<◌, ◌≤◌}
use native.Mathlib.Omega.{arith}
use lib.IntN.{ℤ, pos, negsuc, nat_abs}
use lib.Signed.{lt_z}
use borrow.Author.Tests.{ltb-true, le-leb, lt-leb}
use Rattle.refusal.specs.Paper.{Outcome, taken, refused, map, then}
use Rattle.bencode_walk.specs.Walk.{Head, string, integer, long, list, dictionary, end}
use Rattle.bencode_fields.specs.Looks.{ending_at, ranged, natural_in, number_in}

-- a number without its place
pub only-number : (most p : ℕ) (o : Outcome Head) → map (λ (x : ℕ × ℕ). x.0) (then o (number_in most p)) ≡ then o (natural_in most p)
only-number most p (taken (string a m q)) = refl
only-number most p (taken (integer z q)) = go (ranged most p z)
  where
    go : (o : Outcome ℕ) → map (λ (x : ℕ × ℕ). x.0) (map (ending_at q) o) ≡ o
    go (taken n) = refl
    go (refused r i) = refl
only-number most p (taken (long a m q)) = refl
only-number most p (taken (list q)) = refl
only-number most p (taken (dictionary q)) = refl
only-number most p (taken (end q)) = refl
only-number most p (refused r i) = refl

-- an integer as the code tests it
module _ (most p past : ℕ) where
  pub below-zero : (z : ℤ) → lt_z z (pos 0) ≡ true → refused 11 p ≡ map (ending_at past) (ranged most p z)
  below-zero (pos n) h = absurd (omega (arith, ltb-true n 0 h))
  below-zero (negsuc n) h = refl

  pub too_large : (z : ℤ) → lt_z z (pos 0) ≡ false → most < nat_abs z → refused 11 p ≡ map (ending_at past) (ranged most p z)
  too_large (pos n) h l = rw (lt-leb n most l)
  too_large (negsuc n) h l = let e : ◌≡◌ {A = ℕ} 0 1 = cc in absurd (omega arith)

  pub in-range : (z : ℤ) → lt_z z (pos 0) ≡ false → nat_abs z ≤ most → taken (ending_at past (nat_abs z)) ≡ map (ending_at past) (ranged most p z)
  in-range (pos n) h l = rw (le-leb n most l)
  in-range (negsuc n) h l = let e : ◌≡◌ {A = ℕ} 0 1 = cc in absurd (omega arith)
