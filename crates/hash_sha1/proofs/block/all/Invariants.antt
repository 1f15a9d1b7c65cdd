-- `all` meets its contract: before a block, those before it are hashed. Assumes nothing.
use Rattle.std.proofs.Common.{◌≡◌}
use Rattle.hash_digest.specs.Message.{folded}
use Rattle.hash_sha1.specs.Sha1.{compress}
use Rattle.hash_sha1.proofs.block.all.Given as goal

abbrev pub invariant-loop-b : goal.invariant-loop-b
invariant-loop-b l = l.h ≡ folded compress l.fn.first l.m l.b-index
