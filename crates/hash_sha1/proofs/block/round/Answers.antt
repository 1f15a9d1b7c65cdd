-- `round` meets its contract: the function of its kind, and the sums. Assumes nothing.
use Rattle.hash_sha1.specs.Rounds.{turned}
use Rattle.hash_sha1.proofs.block.round.Goals as goal

pub returns : goal.returns
unfolding turned
returns g c = rw (c.mix.ensures, c.rotate_left.ensures, c.rotate_left-2.ensures)
