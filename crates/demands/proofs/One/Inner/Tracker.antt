-- Demand 1 of `tracker`: how many entries stand from a place on. Assumes nothing.
use Rattle.std.specs.Prelude.{List, ℕ}
use Rattle.refusal.proofs.Outcomes.{paper-determined}
use Rattle.demands.specs.One.{Lent, Determined}
use Rattle.demands.specs.One.Inner.Tracker.{count-ensures}

-- tracker::listed::count
pub count-determined : (text : Lent (List ℕ)) (first : ℕ) → Determined (count-ensures text first)
count-determined text first r r' e f = paper-determined _ r r' e f
