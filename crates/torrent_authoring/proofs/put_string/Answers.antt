-- `torrent_authoring::put_string` meets its contract. Assumes nothing.
use Rattle.bencode_writer.proofs.Runs.{put_two}
use Rattle.torrent_authoring.proofs.put_string.Goals as goal

pub returns : goal.returns
returns c = put_two _ _ _ _ c.requires c.literal.ensures c.end-a.ensures c.string.ensures c.end.ensures
