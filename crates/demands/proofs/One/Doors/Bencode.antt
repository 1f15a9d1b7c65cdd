-- Demand 1 of `bencode::check`: a text is bencode that keeps the limits, or why not. Assumes nothing.
use Rattle.std.specs.Prelude.{List, ℕ}
use Rattle.refusal.proofs.Outcomes.{paper-determined}
use Rattle.demands.specs.One.{Lent, Determined}
use Rattle.demands.specs.One.Doors.Bencode.{check-ensures}

-- bencode::check
pub check-determined : (text : Lent (List ℕ)) → Determined (check-ensures text)
check-determined text r r' e f = paper-determined _ r r' e.0 f.0
