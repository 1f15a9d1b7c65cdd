-- `week::bodies::body` meets its contract. Assumes nothing.
use mathlib.Core.Path.{◌∙◌}
use Rattle.week.proofs.Summing.{body_at}
use Rattle.week.proofs.bodies.body.Goals as goal

pub returns : goal.returns
returns c = c.torrent.ensures ∙ body_at c.args.file.now c.args.i c.args.from c.args.len c.requires.1
