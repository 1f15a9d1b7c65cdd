-- `opening` meets its contract: sixteen rounds, and four. Assumes nothing.
use Rattle.hash_sha1.specs.Rounds.{opening}
use Rattle.hash_sha1.proofs.block.opening.Goals as goal

pub returns : goal.returns
unfolding opening
returns c = cc
