-- `torrent_metainfo::read` meets its contract. Assumes nothing.
use Rattle.torrent_metainfo.proofs.Informing.{read-with}
use Rattle.torrent_metainfo.proofs.read.Goals as goal

pub returns : goal.returns
returns c = read-with c.args.text.now _ c.in_ok-check.ensures.meets _ (λ v f. c.top.ensures v f)
