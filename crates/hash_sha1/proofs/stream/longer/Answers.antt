-- `longer` meets its contract: a law for too few bytes for a block, and one for a first block. Assumes nothing.
use Rattle.std.proofs.Common.{refl, arith}
use Rattle.hash_sha1.proofs.Steps.{grows-few, grows-first}
use Rattle.hash_sha1.proofs.stream.longer.Goals as goal

pub returns-then-part-kept : goal.returns-then-part-kept
returns-then-part-kept c = grows-few c.args.s.hash c.args.s.tail c.args.part.now c.args.s.length c.gathered-first.ensures (omega arith) refl

pub returns : goal.returns
returns c = grows-first c.args.s.hash c.args.s.tail c.args.part.now c.args.s.length c.gathered-first.ensures (omega arith) (omega arith) c.block.ensures refl c.onward.ensures
