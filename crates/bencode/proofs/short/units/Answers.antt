-- `bencode::short::units` meets its contract. Assumes nothing.
use mathlib.Core.Path.{refl}
use native.Mathlib.Omega.{arith}
use Rattle.bencode_scalar.proofs.Decimal.{digit-range}
use Rattle.bencode.proofs.short.units.Goals as goal

pub overflow_sub-result : goal.overflow_sub-result
overflow_sub-result c = (digit-range _ c.requires).0

pub returns : goal.returns
returns c = (refl, omega (arith, digit-range c.args.b c.requires))
