-- The counts of the pieces of the first k bytes are lowered.
use Rattle.std.proofs.Common.{◌≡◌, ◌*◌, min, length}
use Rattle.yard_seating.specs.Steps.{lowered}
use Rattle.yard_seating.proofs.row.lower.Given as goal

abbrev pub invariant-loop-k : goal.invariant-loop-k
invariant-loop-k l = (length l.holders ≡ length l.initial.holders) × (l.holders ≡ lowered l.rows l.at (min (8 * l.k) l.pieces) l.initial.holders)
