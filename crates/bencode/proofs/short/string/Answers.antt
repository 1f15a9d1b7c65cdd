-- `bencode::short::string` meets its contract. Assumes nothing.
use native.Mathlib.Omega.{arith}
use Rattle.bencode.proofs.Leaves.{none-past, some-past}
use Rattle.bencode.proofs.short.string.Goals as goal

pub returns-then-b-eq48 : goal.returns-then-b-eq48
returns-then-b-eq48 c = λ n z. none-past c.args.text.now c.args.at n _ c.requires.0 (omega arith) c.requires.1 c.if-b-eq48.true (c.held.ensures z)

pub returns : goal.returns
returns c = λ n z. some-past c.args.text.now c.args.at n _ c.requires.0 (omega arith) c.requires.1 c.if-b-eq48.false _ c.units.ensures.0 (c.sized.ensures z)

pub units-requires : goal.units-requires
units-requires c = c.requires.1

pub sized-requires : goal.sized-requires
sized-requires c = (omega arith, c.units.ensures.1)
