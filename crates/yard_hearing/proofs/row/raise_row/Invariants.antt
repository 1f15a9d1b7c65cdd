-- The counts of the pieces of the first k bytes are raised.
use Rattle.std.proofs.Common.{◌≡◌, ◌*◌, min, length}
use Rattle.yard_hearing.specs.Passes.{raised}
use Rattle.yard_hearing.proofs.row.raise_row.Given as goal

abbrev pub invariant-loop-k : goal.invariant-loop-k
invariant-loop-k l = (length l.holders ≡ length l.initial.holders) × (l.holders ≡ raised l.rows l.at l.said (min (8 * l.k) l.pieces) l.initial.holders)
