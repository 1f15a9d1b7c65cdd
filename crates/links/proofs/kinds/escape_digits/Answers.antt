-- `links::kinds::escape_digits` meets its contract. Assumes nothing.
use mathlib.Core.Path.{sym, ◌∙◌}
use borrow.Author.Tests.{not-true, not-false}
use Rattle.links.specs.Reading.{is_hex}
use Rattle.links.proofs.Lengths.{none_of_two, one_of_two, two-of-two}
use native.Mathlib.Omega.{arith}
use mathlib.Core.Path.{ap}
use mathlib.Core.Bool.{not}
use Rattle.links.proofs.kinds.escape_digits.Goals as goal

pub returns-then-text-from : goal.returns-then-text-from
returns-then-text-from c = none_of_two is_hex c.args.text.now c.args.from (λ h. absurd (omega arith))

pub returns-then-not-is_hex : goal.returns-then-not-is_hex
returns-then-not-is_hex c = none_of_two is_hex c.args.text.now c.args.from (λ h. sym c.is_hex.ensures ∙ not-true _ (ap not c.if-not-is_hex.true))

pub returns-then-text-from-2 : goal.returns-then-text-from-2
returns-then-text-from-2 c = one_of_two is_hex c.args.text.now c.args.from (omega arith) (sym c.is_hex.ensures ∙ not-false _ (ap not c.if-not-is_hex.false)) (λ h. absurd (omega arith))

pub returns-then-not-is_hex-2 : goal.returns-then-not-is_hex-2
returns-then-not-is_hex-2 c = one_of_two is_hex c.args.text.now c.args.from (omega arith) (sym c.is_hex.ensures ∙ not-false _ (ap not c.if-not-is_hex.false)) (λ h. sym c.is_hex-2.ensures ∙ not-true _ (ap not c.if-not-is_hex-2.true))

pub returns : goal.returns
returns c = two-of-two is_hex c.args.text.now c.args.from (omega arith) (sym c.is_hex.ensures ∙ not-false _ (ap not c.if-not-is_hex.false)) (omega arith) (sym c.is_hex-2.ensures ∙ not-false _ (ap not c.if-not-is_hex-2.false))
