-- `digest` meets its contract: within the limit, or not. Assumes nothing.
use Rattle.hash_sha1.proofs.Steps.{digest-made, digest-refused}
use Rattle.std.proofs.Common.{arith}
use Rattle.hash_sha1.proofs.digest.Goals as goal

pub returns-then-message-gt-PIECE : goal.returns-then-message-gt-PIECE
returns-then-message-gt-PIECE c = digest-refused c.args.message.now c.args.out.now (omega arith) c.refuse.ensures

pub returns : goal.returns
returns c = digest-made c.args.message.now c.args.out.now (omega arith) c.hash.ensures c.spread.ensures
