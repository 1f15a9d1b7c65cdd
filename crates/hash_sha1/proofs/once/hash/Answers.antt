-- `hash` meets its contract: the whole blocks, and the last. Assumes nothing.
use Rattle.hash_sha1.proofs.Steps.{hash-whole}
use Rattle.hash_sha1.proofs.once.hash.Goals as goal

pub returns : goal.returns
returns c = hash-whole c.args.m.now c.initial.ensures c.whole.ensures c.last.ensures
