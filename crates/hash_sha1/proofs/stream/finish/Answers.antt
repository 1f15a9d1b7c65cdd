-- `finish` meets its contract: within the limit, or not. Assumes nothing.
use Rattle.hash_sha1.proofs.Steps.{finish-written, finish-refused}
use Rattle.std.proofs.Common.{arith}
use Rattle.hash_sha1.proofs.stream.finish.Goals as goal

pub returns-then-length-gt-PIECE : goal.returns-then-length-gt-PIECE
returns-then-length-gt-PIECE c = finish-refused c.args.s c.args.out.now (omega arith) c.refuse.ensures

pub returns : goal.returns
returns c = finish-written c.args.s c.args.out.now (omega arith) c.last.ensures c.spread.ensures
