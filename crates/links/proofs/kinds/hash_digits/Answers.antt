-- `links::kinds::hash_digits` meets its contract. Assumes nothing.
use native.Mathlib.Omega.{arith}
use Rattle.links.proofs.kinds.hash_digits.Goals as goal

pub returns-then-all_hex : goal.returns-then-all_hex
returns-then-all_hex c = omega (arith, c.all_hex.ensures c.if-all_hex.true)

pub returns : goal.returns
returns c = c.digits.ensures
