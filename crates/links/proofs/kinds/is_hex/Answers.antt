-- `links::kinds::is_hex` meets its contract. Assumes nothing.
use Rattle.links.proofs.Digits.{hex-below, hex-above, hex-bit}
use native.Mathlib.Omega.{arith}
use Rattle.links.proofs.kinds.is_hex.Goals as goal

pub returns-then-b-lt48 : goal.returns-then-b-lt48
returns-then-b-lt48 c = hex-below c.args.b (omega arith)

pub returns-then-b-gt102 : goal.returns-then-b-gt102
returns-then-b-gt102 c = hex-above c.args.b (omega arith)

pub returns : goal.returns
returns c = hex-bit c.args.b (omega arith) (omega arith)
