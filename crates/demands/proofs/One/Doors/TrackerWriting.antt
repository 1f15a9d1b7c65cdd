-- Demand 1 of `tracker::writing`: replies, written. Assumes nothing.
use Rattle.refusal.specs.Paper.{paper}
use Rattle.std.specs.Prelude.{List, ℕ}
use Rattle.tracker.proofs.Rewriting as laws
use Rattle.demands.specs.One.{Lent, Determined1, Keeps1, Refused}
use Rattle.demands.specs.One.Doors.TrackerWriting.{write-ensures}

-- tracker::writing::write
pub write-determined : (interval : ℕ) (peers : Lent (List ℕ)) → Determined1 (write-ensures interval peers)
write-determined interval peers out r r' out₁ out₂ e f = laws.write-determined _ _ _ r e r' f

pub write-keeps : (interval : ℕ) (peers : Lent (List ℕ)) → Keeps1 (write-ensures interval peers) (λ r. Refused (paper r))
write-keeps interval peers r out e k = (laws.refusal-keeps _ _ _ r e k.0 k.1 k.2).2
