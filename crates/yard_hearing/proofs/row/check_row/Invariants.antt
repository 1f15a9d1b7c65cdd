-- The pieces of the first k bytes are looked at.
use Rattle.std.proofs.Common.{◌≡◌, ◌*◌, min}
use Rattle.yard_hearing.specs.Passes.{checked}
use Rattle.yard_hearing.proofs.row.check_row.Given as goal

abbrev pub invariant-loop-k : goal.invariant-loop-k
invariant-loop-k l = l.news ≡ checked l.rows l.at l.said l.holders l.top (min (8 * l.k) l.pieces)
