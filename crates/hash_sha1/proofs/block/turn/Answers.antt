-- `turn` meets its contract: four words are made, and four rounds done on them. Assumes nothing.
use Rattle.hash_sha1.specs.Rounds.{turn}
use Rattle.hash_sha1.proofs.block.turn.Goals as goal

pub returns : goal.returns
unfolding turn
returns g c = rw (c.rounds.ensures, c.four_words.ensures)
