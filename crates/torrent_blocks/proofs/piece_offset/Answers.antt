-- `torrent_blocks::piece_offset` meets its contract: without a piece length all is the rest. Assumes nothing.
use Rattle.torrent_blocks.proofs.Legal.{rest-none}
use Rattle.torrent_blocks.proofs.piece_offset.Goals as goal

pub returns-then-piece_length-eq0 : goal.returns-then-piece_length-eq0
returns-then-piece_length-eq0 c = rest-none c.args.piece_length c.args.place.0 c.capped.result c.if-piece_length-eq0.true c.capped.ensures
