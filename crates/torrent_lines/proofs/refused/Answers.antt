-- `torrent_lines::refused` meets its contract. Assumes nothing.
use Rattle.bencode_scalar.specs.Written.{decimal}
use Rattle.bencode_writer.proofs.Runs.{ran_then, ran-as}
use Rattle.torrent_lines.proofs.Running.{refused-joined}
use Rattle.torrent_lines.proofs.refused.Goals as goal

pub returns-clause-ran : goal.returns-clause-ran
returns-clause-ran c = ran-as (ran_then c.literal-at.ensures (ran_then c.numbered-to.ensures.ran c.numbered.ensures.ran)) (refused-joined (decimal c.args.number) (decimal c.args.place))
