-- Whether a piece of the first k bytes has no holder.
use Rattle.std.proofs.Common.{◌≡◌, ◌*◌, min}
use Rattle.yard_seating.specs.Steps.{some_zero}
use Rattle.yard_seating.proofs.row.some_zero.Given as goal

abbrev pub invariant-loop-k : goal.invariant-loop-k
invariant-loop-k l = l.found ≡ some_zero l.rows l.at l.holders (min (8 * l.k) l.pieces)
