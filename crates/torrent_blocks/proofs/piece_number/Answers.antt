-- `torrent_blocks::piece_number` meets its contract: no piece length has one piece. Assumes nothing.
use Rattle.torrent_blocks.proofs.Legal.{number-none}
use Rattle.torrent_blocks.proofs.piece_number.Goals as goal

pub returns-then-piece_length-eq0 : goal.returns-then-piece_length-eq0
returns-then-piece_length-eq0 c = number-none c.args.piece_length c.args.place.0 c.if-piece_length-eq0.true
