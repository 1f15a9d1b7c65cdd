-- `links::kinds::is_letter_or_digit` meets its contract. Assumes nothing.
use Rattle.links.proofs.Digits.{below-digits, a-digit, below-capitals, a-capital, below-letters, a-letter}
use native.Mathlib.Omega.{arith}
use Rattle.links.proofs.kinds.is_letter_or_digit.Goals as goal

pub returns-then-b-lt48 : goal.returns-then-b-lt48
returns-then-b-lt48 c = below-digits c.args.b (omega arith)

pub returns-then-b-le57 : goal.returns-then-b-le57
returns-then-b-le57 c = a-digit c.args.b (omega arith) (omega arith)

pub returns-then-b-lt65 : goal.returns-then-b-lt65
returns-then-b-lt65 c = below-capitals c.args.b (omega arith) (omega arith)

pub returns-then-b-le90 : goal.returns-then-b-le90
returns-then-b-le90 c = a-capital c.args.b (omega arith) (omega arith)

pub returns-then-b-lt97 : goal.returns-then-b-lt97
returns-then-b-lt97 c = below-letters c.args.b (omega arith) (omega arith)

pub returns : goal.returns
returns c = a-letter c.args.b (omega arith)
