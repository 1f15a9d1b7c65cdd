-- `bencode::short::tens` meets its contract. Assumes nothing.
use native.Mathlib.Omega.{arith}
use Rattle.bencode.proofs.short.tens.Goals as goal

pub units-requires : goal.units-requires
units-requires c = c.requires.0

pub overflow_mul-result : goal.overflow_mul-result
overflow_mul-result c = omega (arith, c.units.ensures.1)

pub units-requires-2 : goal.units-requires-2
units-requires-2 c = c.requires.1

pub overflow_add-result : goal.overflow_add-result
overflow_add-result c = omega (arith, c.units.ensures.1, c.units-2.ensures.1)
