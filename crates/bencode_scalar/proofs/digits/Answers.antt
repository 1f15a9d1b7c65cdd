-- `bencode_scalar::digits` meets its contract. Assumes nothing.
use Rattle.std.proofs.Common.{arith, sym, ◌∙◌}
use Rattle.bencode_scalar.proofs.Decimal.{reading-start, reading_step, reading-stop, reading-enough, reading-end}
use Rattle.bencode_scalar.proofs.digits.Goals as goal

pub loop-i-init : goal.loop-i-init
loop-i-init c = reading-start _ _ _ c.requires.0 c.requires.1

pub loop-i-preserved : goal.loop-i-preserved
loop-i-preserved c = reading_step _ _ _ c.loop-i.invariant (omega arith) (sym c.digit.ensures ∙ c.if-not-digit.false) (omega arith)

pub returns-then-not-digit : goal.returns-then-not-digit
returns-then-not-digit c = reading-stop _ _ _ c.loop-i.invariant (omega arith) (sym c.digit.ensures ∙ c.if-not-digit.true)

pub returns-then-value : goal.returns-then-value
returns-then-value c = reading-enough _ _ _ c.loop-i.invariant (omega arith) c.run_end.ensures

pub returns : goal.returns
returns c = let r = reading-end _ _ _ c.loop-i.invariant c.loop-i-test.false in (r.0, omega (arith, r.1))
