-- `twenty` meets its contract: four rounds five times. Assumes nothing.
use Rattle.hash_sha1.proofs.Rounds.{turns-joined}
use Rattle.hash_sha1.specs.Rounds.{run}
use Rattle.hash_sha1.proofs.block.twenty.Goals as goal

pub returns : goal.returns
returns g c = turns-joined _ c.args.k _ (run c.args.before c.args.w.now) c.turn-one.ensures c.turn-two.ensures c.turn-three.ensures c.turn-four.ensures c.turn.ensures
