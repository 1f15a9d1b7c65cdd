-- One of a list by its number: there is one below the length, and none past it. Assumes nothing.
use mathlib.Core.Path.{◌≡◌, refl}
use mathlib.Core.List.{List, [], ◌∷◌}
use Prim.Native.Nat.{ℕ, zero, suc, ◌<◌, ◌≤◌}
use native.Mathlib.Omega.{arith}
use lib.ListN.{length}
use Rattle.refusal.specs.Paper.{taken, refused}
use Rattle.bencode_fields.specs.Nth.{nth}

pub nth-within : {A : Type 0} (n : ℕ) (l : List A) → n < length l → (x : A) × (nth n l ≡ taken x)
unfolding nth
nth-within n [] h = absurd (omega arith)
nth-within zero (x ∷ l) h = (x, refl)
nth-within (suc n) (x ∷ l) h = nth-within n l (omega arith)

pub nth_beyond : {A : Type 0} (n : ℕ) (l : List A) → length l ≤ n → nth n l ≡ refused 31 0
unfolding nth
nth_beyond n [] h = refl
nth_beyond zero (x ∷ l) h = absurd (omega arith)
nth_beyond (suc n) (x ∷ l) h = nth_beyond n l (omega arith)
