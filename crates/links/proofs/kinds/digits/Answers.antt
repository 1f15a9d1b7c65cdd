-- `links::kinds::digits` meets its contract. Assumes nothing.
use mathlib.Core.Path.{sym, ◌∙◌}
use Prim.Native.Nat.{◌+◌}
use borrow.Author.Tests.{not-true, not-false}
use Rattle.links.proofs.Lengths.{runs-stop, runs-from, runs_on, runs-most}
use Rattle.links.specs.Reading.{is_hex}
use native.Mathlib.Omega.{arith}
use mathlib.Core.Path.{ap}
use mathlib.Core.Bool.{not}
use Rattle.links.proofs.kinds.digits.Goals as goal

pub loop-count-init : goal.loop-count-init
loop-count-init c = runs-from is_hex c.args.text.now c.args.from

pub returns-then-not-is_hex : goal.returns-then-not-is_hex
returns-then-not-is_hex c = omega (arith, runs-stop is_hex c.args.text.now (c.args.from + c.loop-count.count) (omega arith) (sym c.is_hex.ensures ∙ not-true _ (ap not c.if-not-is_hex.true)), c.loop-count.invariant)

pub loop-count-preserved : goal.loop-count-preserved
loop-count-preserved c = runs_on is_hex c.args.text.now c.args.from c.loop-count.count c.loop-count.invariant (omega arith) (sym c.is_hex.ensures ∙ not-false _ (ap not c.if-not-is_hex.false))

pub returns : goal.returns
returns c = omega (arith, runs-most is_hex c.args.text.now c.args.from c.loop-count.count c.loop-count.invariant c.args.most (omega arith) (omega arith))
