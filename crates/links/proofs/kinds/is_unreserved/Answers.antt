-- `links::kinds::is_unreserved` meets its contract. Assumes nothing.
use mathlib.Core.Path.{sym, ◌∙◌}
use borrow.Author.Tests.{eq-eqb, ne_eqb}
use Rattle.links.proofs.Digits.{kept-letter, kept-minus, kept-dot, kept_line, kept-tilde}
use Rattle.links.proofs.kinds.is_unreserved.Goals as goal

pub returns-then-is_letter_or_digit : goal.returns-then-is_letter_or_digit
returns-then-is_letter_or_digit c = kept-letter c.args.b (sym c.is_letter_or_digit.ensures ∙ c.if-is_letter_or_digit.true)

pub returns-then-b-eq45 : goal.returns-then-b-eq45
returns-then-b-eq45 c = kept-minus c.args.b (sym c.is_letter_or_digit.ensures ∙ c.if-is_letter_or_digit.false) (eq-eqb _ 45 c.if-b-eq45.true)

pub returns-then-b-eq46 : goal.returns-then-b-eq46
returns-then-b-eq46 c = kept-dot c.args.b (sym c.is_letter_or_digit.ensures ∙ c.if-is_letter_or_digit.false) (ne_eqb _ 45 c.if-b-eq45.false) (eq-eqb _ 46 c.if-b-eq46.true)

pub returns-then-b-eq95 : goal.returns-then-b-eq95
returns-then-b-eq95 c = kept_line c.args.b (sym c.is_letter_or_digit.ensures ∙ c.if-is_letter_or_digit.false) (ne_eqb _ 45 c.if-b-eq45.false) (ne_eqb _ 46 c.if-b-eq46.false) (eq-eqb _ 95 c.if-b-eq95.true)

pub returns : goal.returns
returns c = kept-tilde c.args.b (sym c.is_letter_or_digit.ensures ∙ c.if-is_letter_or_digit.false) (ne_eqb _ 45 c.if-b-eq45.false) (ne_eqb _ 46 c.if-b-eq46.false) (ne_eqb _ 95 c.if-b-eq95.false)
