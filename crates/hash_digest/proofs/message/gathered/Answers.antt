-- `gathered` meets its contract: a law over the two copies. Assumes nothing.
use Rattle.hash_digest.proofs.Stores.{gathered-put}
use Rattle.hash_digest.proofs.message.gathered.Goals as goal

pub returns : goal.returns
returns c = gathered-put c.args.held.now c.args.part.now c.min-first.ensures c.min-second.ensures c.copy_from_slice.ensures.after c.copy_from_slice-2.ensures.after
