-- `rarest` meets its contract. Assumes nothing.
use Rattle.std.proofs.Common.{arith}
use Rattle.yard_seating.proofs.Looking.{rarest-start, rarest-turn, rarest-is}
use Rattle.yard_seating.proofs.looks.rarest.Goals as goal

pub loop-p-init : goal.loop-p-init
loop-p-init c = rarest-start c.args.holders.now

pub rarer-best-requires : goal.rarer-best-requires
rarer-best-requires c = (omega (arith, c.loop-p.invariant.within), c.loop-p-test.true)

pub loop-p-preserved : goal.loop-p-preserved
loop-p-preserved c = rarest-turn c.args.holders.now c.loop-p.best c.loop-p.p _ c.loop-p.invariant c.rarer-best.ensures

pub returns : goal.returns
returns c = rarest-is c.args.holders.now c.loop-p.p c.loop-p.best (omega arith) c.loop-p.invariant
