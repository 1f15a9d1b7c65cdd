-- One of a list by its number. Assumes nothing: these are definitions.
use Rattle.std.specs.Prelude.{List, [], ◌∷◌, ℕ, zero, suc}
use Rattle.refusal.specs.Paper.{Outcome, taken, refused}
use Rattle.refusal.specs.Numbers.{beyond}

-- number n, counted from 0; past the last it is 31
unfoldable pub nth : {A : Type 0} → ℕ → List A → Outcome A
nth n [] = refused beyond 0
nth zero (x ∷ l) = taken x
nth (suc n) (x ∷ l) = nth n l
