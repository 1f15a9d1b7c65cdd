-- `links::put_link` meets its contract. Assumes nothing.
use Rattle.links.proofs.Lining.{line-put}
use Rattle.links.proofs.put_link.Goals as goal

pub returns : goal.returns
returns c = let p = line-put c.args.torrent.now c.requires.1 c.args.t c.requires.0 c.args.out.now c.requires.2 c.written.ensures c.end-at.ensures c.literal.ensures c.end.ensures in record { ran = p.0; most = p.1 }
