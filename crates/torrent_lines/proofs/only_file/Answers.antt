-- `torrent_lines::only_file` meets its contract. Assumes nothing.
use Rattle.torrent_lines.proofs.Running.{only-joined}
use Rattle.bencode_writer.proofs.Runs.{ran_then, ran-as}
use Rattle.bencode_scalar.specs.Written.{decimal}
use Rattle.torrent_lines.proofs.only_file.Goals as goal

pub returns : goal.returns
returns c = ran-as (ran_then c.literal-a.ensures (ran_then c.numbered-b.ensures.ran (ran_then c.escaped-c.ensures c.byte.ensures))) (only-joined (decimal c.args.total) c.args.name.now)
