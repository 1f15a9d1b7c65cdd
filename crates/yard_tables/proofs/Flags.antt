-- What the yard writes into a flag is read as it was meant. Assumes nothing.
use mathlib.Core.Path.{◌≡◌, refl}
use mathlib.Core.Bool.{Bool, true, false}
use Rattle.yard_tables.specs.Counting.{bit}
use Rattle.yard_tables.specs.Seats.{on}

pub on_bit : (b : Bool) → on (bit b) ≡ b
on_bit true = refl
on_bit false = refl
