-- Demand 1 of `tracker`: replies and their entries, read. Assumes nothing.
use Rattle.refusal.specs.declared.Refusal.{Refusal}
use Rattle.std.specs.Prelude.{List, ℕ, Result}
use Rattle.std.proofs.Common.{sym, ◌∙◌}
use Rattle.tracker.specs.declared.Reply.{Reply}
use Rattle.tracker.proofs.Determined as laws
use Rattle.demands.specs.One.{Lent, Determined}
use Rattle.demands.specs.One.Doors.Tracker.{read-ensures, peer-ensures, entries-ensures, packed_at-ensures, listed_at-ensures}

-- tracker::read
pub read-determined : (text : Lent (List ℕ)) → Determined (read-ensures text)
read-determined text r r' e f = laws.read-determined _ r r' e f

-- tracker::peer
pub peer-determined : (text : Lent (List ℕ)) (n : ℕ) → Determined (peer-ensures text n)
peer-determined text n r r' e f = laws.peer-determined _ r r' e f

-- tracker::entries
pub entries-determined : (reply : Result Reply Refusal) → Determined (entries-ensures reply)
entries-determined reply r r' e f = e ∙ sym f

-- tracker::compact::packed_at
pub packed_at-determined : (text : Lent (List ℕ)) (at : ℕ) → Determined (packed_at-ensures text at)
packed_at-determined text at r r' e f = laws.packed-determined _ r r' e f

-- tracker::listed::listed_at
pub listed_at-determined : (text : Lent (List ℕ)) (at : ℕ) → Determined (listed_at-ensures text at)
listed_at-determined text at r r' e f = laws.listed-determined _ r r' e f
