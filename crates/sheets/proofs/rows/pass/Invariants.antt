-- `sheets::rows::pass` meets its contract. Assumes nothing.
use Prim.Native.Nat.{◌-◌}
use lib.ListN.{length}
use Rattle.sheets.proofs.Passing.{Passing}
use Rattle.sheets.proofs.rows.pass.Given as goal

abbrev pub invariant-loop-stage : goal.invariant-loop-stage
invariant-loop-stage l = Passing l.sheet l.hash l.stage

abbrev pub decreases-loop-stage : goal.decreases-loop-stage
decreases-loop-stage l = length l.sheet - l.stage.at
