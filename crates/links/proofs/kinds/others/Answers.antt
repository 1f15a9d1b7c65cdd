-- `links::kinds::others` meets its contract. Assumes nothing.
use Rattle.links.proofs.Digits.{counts-none}
use Rattle.links.proofs.Lengths.{runs-from, runs_on}
use Rattle.links.specs.Reading.{is_hex}
use native.Mathlib.Omega.{arith}
use Rattle.links.proofs.kinds.others.Goals as goal

pub loop-i-init : goal.loop-i-init
loop-i-init c = (omega arith, λ e. runs-from is_hex c.args.text.now c.args.from)

pub overflow_add-count : goal.overflow_add-count
overflow_add-count c = omega (arith, c.other-count.ensures.1)

pub loop-i-preserved : goal.loop-i-preserved
loop-i-preserved c = (omega (arith, c.other-count.ensures.1), λ e. runs_on is_hex c.args.text.now c.args.from c.loop-i.i (c.loop-i.invariant.1 (omega arith)) (omega arith) (counts-none _ c.other-count.ensures.0 (omega arith)))

pub returns : goal.returns
returns c = λ e. omega (arith, c.loop-i.invariant.1 e)
