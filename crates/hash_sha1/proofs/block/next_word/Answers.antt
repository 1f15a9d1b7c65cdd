-- `next_word` meets its contract: one word more, from the window as it was. Assumes nothing.
use Rattle.hash_digest.specs.Window.{renewed}
use Rattle.hash_sha1.proofs.block.next_word.Goals as goal

pub returns : goal.returns
unfolding renewed
returns c = cc
