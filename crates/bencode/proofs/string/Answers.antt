-- `bencode::string` meets its contract. Assumes nothing.
use Rattle.std.proofs.Common.{arith}
use Rattle.bencode_scalar.proofs.Determined.{whole-inside}
use Rattle.bencode.proofs.string.Goals as goal

pub overflow_add-part : goal.overflow_add-part
overflow_add-part c = omega (arith, whole-inside c.args.text.now c.args.at c.in_ok-part.part c.requires (c.in_ok-part.ensures 0))
