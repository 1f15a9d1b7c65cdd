-- `links::kinds::other` meets its contract. Assumes nothing.
use Rattle.links.proofs.Digits.{other-below, hex-decimal, other-middle, hex-capital, other-high, hex-small, other-above}
use native.Mathlib.Omega.{arith}
use Rattle.links.proofs.kinds.other.Goals as goal

pub returns-then-b-lt48 : goal.returns-then-b-lt48
returns-then-b-lt48 c = other-below c.args.b (omega arith)

pub returns-then-b-le57 : goal.returns-then-b-le57
returns-then-b-le57 c = hex-decimal c.args.b (omega arith) (omega arith)

pub returns-then-b-lt65 : goal.returns-then-b-lt65
returns-then-b-lt65 c = other-middle c.args.b (omega arith) (omega arith)

pub returns-then-b-le70 : goal.returns-then-b-le70
returns-then-b-le70 c = hex-capital c.args.b (omega arith) (omega arith)

pub returns-then-b-lt97 : goal.returns-then-b-lt97
returns-then-b-lt97 c = other-high c.args.b (omega arith) (omega arith)

pub returns-then-b-le102 : goal.returns-then-b-le102
returns-then-b-le102 c = hex-small c.args.b (omega arith) (omega arith)

pub returns : goal.returns
returns c = other-above c.args.b (omega arith)
