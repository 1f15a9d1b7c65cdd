-- `links::kinds::word` meets its contract. Assumes nothing.
use Prim.Native.Nat.{◌+◌}
use borrow.Author.Tests.{ne_eqb}
use Rattle.links.proofs.Lengths.{common-stop, common-from, common-on, common-most}
use native.Mathlib.Omega.{arith}
use Rattle.links.proofs.kinds.word.Goals as goal

pub loop-count-init : goal.loop-count-init
loop-count-init c = common-from c.args.text.now c.args.word.now c.args.from

pub returns-then-text-from : goal.returns-then-text-from
returns-then-text-from c = omega (arith, common-stop c.args.text.now c.args.word.now (c.args.from + c.loop-count.count) c.loop-count.count (omega arith) (omega arith) (ne_eqb _ _ c.if-text-from.true), c.loop-count.invariant)

pub loop-count-preserved : goal.loop-count-preserved
loop-count-preserved c = common-on c.args.text.now c.args.word.now c.args.from c.loop-count.count c.loop-count.invariant (omega arith) (omega arith) c.if-text-from.false

pub returns : goal.returns
returns c = omega (arith, common-most c.args.text.now c.args.word.now c.args.from c.loop-count.count c.loop-count.invariant (omega arith) (omega arith))
