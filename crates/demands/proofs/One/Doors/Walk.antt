-- Demand 1 of `bencode_walk`: the steps over a text. Assumes nothing.
use Rattle.std.specs.Prelude.{List, ℕ}
use Rattle.std.proofs.Common.{sym, ◌∙◌}
use Rattle.refusal.specs.declared.Part.{Part}
use Rattle.bencode_walk.proofs.Determined as laws
use Rattle.demands_laws.proofs.Refusals.{one-part}
use Rattle.refusal.proofs.Outcomes.{paper-determined}
use Rattle.demands.specs.One.{Lent, Determined, ref}
use Rattle.demands.specs.One.Doors.Walk.{look-ensures, entry-ensures, seek-ensures, skip-ensures, bytes-ensures}

-- bencode_walk::look
pub look-determined : (text : Lent (List ℕ)) (at : ℕ) → Determined (look-ensures text at)
look-determined text at r r' e f = laws.look-determined _ _ r r' e f

-- bencode_walk::entry
pub entry-determined : (text : Lent (List ℕ)) (at : ℕ) → Determined (entry-ensures text at)
entry-determined text at r r' e f = laws.entry-determined _ _ r r' e f

-- bencode_walk::seek
pub seek-determined : (text : Lent (List ℕ)) (at : ℕ) (key : Lent (List ℕ)) → Determined (seek-ensures text at key)
seek-determined text at key r r' e f = laws.seek-determined _ _ _ _ r r' e f

-- bencode_walk::skip
pub skip-determined : (text : Lent (List ℕ)) (at : ℕ) → Determined (skip-ensures text at)
skip-determined text at r r' e f = paper-determined _ r r' e f

-- bencode_walk::bytes
pub bytes-determined : (text : Lent (List ℕ)) (p : Part) → Determined (bytes-ensures text p)
bytes-determined text p r r' e f = one-part ref (e.0 ∙ sym f.0, e.1.0 ∙ sym f.1.0, e.1.1 ∙ sym f.1.1)
