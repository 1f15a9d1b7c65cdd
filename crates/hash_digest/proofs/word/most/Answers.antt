-- `most` meets its contract: a law over the width. Assumes nothing.
use Rattle.hash_digest.proofs.Bits.{majority}
use Rattle.hash_digest.proofs.word.most.Goals as goal

pub returns : goal.returns
returns c = majority 32 c.args.x c.args.y c.args.z c.ranges.x.fits c.ranges.y.fits c.ranges.z.fits
