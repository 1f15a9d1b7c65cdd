-- The first k bytes are merged.
use Rattle.std.proofs.Common.{◌≡◌, length}
use Rattle.yard_hearing.specs.Passes.{merged}
use Rattle.yard_hearing.proofs.row.merge_row.Given as goal

abbrev pub invariant-loop-k : goal.invariant-loop-k
invariant-loop-k l = (length l.rows ≡ length l.initial.rows) × (l.rows ≡ merged l.at l.said l.k l.initial.rows)
