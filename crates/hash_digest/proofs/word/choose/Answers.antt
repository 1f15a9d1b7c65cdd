-- `choose` meets its contract: a law over the width. Assumes nothing.
use Rattle.hash_digest.proofs.Bits.{chosen}
use Rattle.hash_digest.proofs.word.choose.Goals as goal

pub returns : goal.returns
returns c = chosen 32 c.args.x c.args.y c.args.z c.ranges.x.fits c.ranges.z.fits
