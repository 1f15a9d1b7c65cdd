-- `week::writing::add_up` meets its contract. Assumes nothing.
use native.Mathlib.Omega.{arith}
use Rattle.torrent_blocks.specs.Rules.{sum}
use Rattle.week.proofs.Packing.{adds-over, adds-next, adds-end}
use Rattle.week.proofs.writing.add_up.Goals as goal

pub loop-len-init : goal.loop-len-init
unfolding sum
loop-len-init c = omega arith

pub returns-then-left-len : goal.returns-then-left-len
returns-then-left-len c = adds-over c.args.lengths.now c.loop-len.len-index c.args.count c.loop-len.left c.loop-len.invariant (omega arith) (omega arith)

pub loop-len-preserved : goal.loop-len-preserved
loop-len-preserved c = adds-next c.args.lengths.now c.loop-len.len-index c.args.count c.loop-len.left c.loop-len.invariant (omega arith) (omega arith)

pub returns : goal.returns
returns c = adds-end c.args.lengths.now c.loop-len.len-index c.args.count c.loop-len.left c.loop-len.invariant (omega arith)
