-- `torrent_lines::first_line` meets its contract. Assumes nothing.
use Rattle.torrent_lines.proofs.Running.{first-joined}
use Rattle.bencode_writer.proofs.Runs.{ran_then, ran-as}
use Rattle.torrent_lines.specs.Lines.{escaped}
use Rattle.bencode_scalar.specs.Written.{decimal}
use Rattle.torrent_lines.proofs.first_line.Goals as goal

pub returns : goal.returns
returns c = ran-as (ran_then c.escaped-a.ensures (ran_then c.byte-b.ensures (ran_then c.numbered-c.ensures.ran (ran_then c.numbered-d.ensures.ran (ran_then c.numbered-e.ensures.ran c.numbered.ensures.ran))))) (first-joined (escaped c.args.name.now) (decimal c.args.t.content.files) (decimal c.args.t.content.total) (decimal c.args.t.piece_count) (decimal c.args.t.piece_length))
