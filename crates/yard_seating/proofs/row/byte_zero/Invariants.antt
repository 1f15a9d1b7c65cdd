-- Whether a piece below q has no holder.
use Rattle.std.proofs.Common.{◌≡◌}
use Rattle.yard_seating.specs.Steps.{some_zero}
use Rattle.yard_seating.proofs.row.byte_zero.Given as goal

abbrev pub invariant-loop-q : goal.invariant-loop-q
invariant-loop-q l = l.any ≡ some_zero l.rows l.at l.holders l.q
