-- `bencode_scalar::run_end` meets its contract. Assumes nothing.
use Rattle.std.proofs.Common.{arith, sym, ◌∙◌}
use Rattle.bencode_scalar.proofs.Decimal.{passing-start, passing-more, passing-stop, passing-end}
use Rattle.bencode_scalar.proofs.run_end.Goals as goal

pub loop-i-init : goal.loop-i-init
loop-i-init c = passing-start _ _ c.requires

pub loop-i-preserved : goal.loop-i-preserved
loop-i-preserved c = passing-more _ _ c.loop-i.invariant (omega arith) (sym c.digit.ensures ∙ c.if-not-digit.false)

pub returns-then-not-digit : goal.returns-then-not-digit
returns-then-not-digit c = omega (arith, passing-stop _ _ c.loop-i.invariant (omega arith) (sym c.digit.ensures ∙ c.if-not-digit.true))

pub returns : goal.returns
returns c = omega (arith, passing-end _ _ c.loop-i.invariant c.loop-i-test.false)
