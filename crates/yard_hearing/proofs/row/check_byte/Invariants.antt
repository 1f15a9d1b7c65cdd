-- The pieces below q are looked at.
use Rattle.std.proofs.Common.{◌≡◌}
use Rattle.yard_hearing.specs.Passes.{checked}
use Rattle.yard_hearing.proofs.row.check_byte.Given as goal

abbrev pub invariant-loop-q : goal.invariant-loop-q
invariant-loop-q l = l.news ≡ checked l.rows l.at l.said l.holders l.top l.q
