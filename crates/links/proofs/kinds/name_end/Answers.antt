-- `links::kinds::name_end` meets its contract. Assumes nothing.
use mathlib.Core.Path.{refl, sym, ◌∙◌}
use borrow.Author.Tests.{not-true, not-false}
use Rattle.links.proofs.Lengths.{runs-more, runs-stop, runs_none}
use Rattle.links.specs.Link.{name_byte}
use native.Mathlib.Omega.{arith}
use mathlib.Core.Path.{ap}
use mathlib.Core.Bool.{not}
use Rattle.links.proofs.kinds.name_end.Goals as goal

pub loop-at-init : goal.loop-at-init
loop-at-init c = refl

pub returns-then-not-is_name : goal.returns-then-not-is_name
returns-then-not-is_name c = omega (arith, runs-stop name_byte c.args.text.now c.loop-at.at (omega arith) (sym c.is_name.ensures ∙ not-true _ (ap not c.if-not-is_name.true)), c.loop-at.invariant)

pub loop-at-preserved : goal.loop-at-preserved
loop-at-preserved c = omega (arith, runs-more name_byte c.args.text.now c.loop-at.at (omega arith) (sym c.is_name.ensures ∙ not-false _ (ap not c.if-not-is_name.false)), c.loop-at.invariant)

pub returns : goal.returns
returns c = omega (arith, runs_none name_byte c.args.text.now c.loop-at.at (omega arith), c.loop-at.invariant)
