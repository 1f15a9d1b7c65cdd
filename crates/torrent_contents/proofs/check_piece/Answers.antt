-- `torrent_contents::check_piece` meets its contract. Assumes nothing.
use Rattle.std.proofs.Common.{sym}
use Rattle.torrent_contents.proofs.Hashing.{inside-text}
use Rattle.torrent_contents.proofs.check_piece.Goals as goal

pub check-requires : goal.check-requires
check-requires c = inside-text c.args.text.now c.in_ok-t.t (sym c.in_ok-t.ensures)
