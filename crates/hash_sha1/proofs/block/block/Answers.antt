-- `block` meets its contract: one block is a message of whole blocks. Assumes nothing.
use Rattle.hash_digest.proofs.Blocks.{hashed-one}
use Rattle.hash_sha1.specs.Sha1.{compress}
use Rattle.std.proofs.Common.{◌∙◌, arith}
use Rattle.hash_sha1.proofs.block.block.Goals as goal

pub returns : goal.returns
returns c = c.all.ensures ∙ hashed-one compress c.args.h c.args.b.now (omega arith)
