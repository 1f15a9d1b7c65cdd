-- No bit below p is spare.
use Rattle.std.proofs.Common.{◌≡◌, false}
use Rattle.yard_hearing.specs.Passes.{spare_below}
use Rattle.yard_hearing.proofs.row.spare_set.Given as goal

abbrev pub invariant-loop-p : goal.invariant-loop-p
invariant-loop-p l = spare_below l.pieces l.said l.p ≡ false
