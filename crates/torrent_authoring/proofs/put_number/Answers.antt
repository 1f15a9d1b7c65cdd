-- `torrent_authoring::put_number` meets its contract. Assumes nothing.
use Rattle.bencode_writer.proofs.Runs.{put_three}
use Rattle.torrent_authoring.proofs.put_number.Goals as goal

pub returns : goal.returns
returns c = put_three _ _ _ _ _ c.requires c.literal.ensures c.end-a.ensures c.decimal.ensures c.end-b.ensures c.literal-2.ensures c.end.ensures
