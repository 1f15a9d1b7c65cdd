-- `links::kinds::is_name` meets its contract. Assumes nothing.
use mathlib.Core.Path.{sym, ◌∙◌}
use Rattle.links.proofs.Digits.{in-name, dot-or-none}
use Rattle.links.proofs.kinds.is_name.Goals as goal

pub returns-then-is_letter_or_digit : goal.returns-then-is_letter_or_digit
returns-then-is_letter_or_digit c = in-name c.args.b (sym c.is_letter_or_digit.ensures ∙ c.if-is_letter_or_digit.true)

pub returns : goal.returns
returns c = dot-or-none c.args.b (sym c.is_letter_or_digit.ensures ∙ c.if-is_letter_or_digit.false)
