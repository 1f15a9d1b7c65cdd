-- `bencode_walk::string` meets its contract. Assumes nothing.
use Rattle.std.proofs.Common.{arith}
use Rattle.bencode_scalar.proofs.Determined.{whole-inside}
use Rattle.bencode_walk.proofs.Seeing.{whole-seen}
use Rattle.bencode_walk.proofs.string.Goals as goal

pub overflow_add-result : goal.overflow_add-result
overflow_add-result c = omega (arith, whole-inside c.args.text.now c.args.at c.in_ok-part.part c.requires (c.in_ok-part.ensures 0))

pub returns : goal.returns
returns c = whole-seen c.args.text.now c.args.at c.in_ok-part.part c.requires (c.in_ok-part.ensures 0)
