-- `torrent_contents::piece_hash` meets its contract. Assumes nothing.
use Rattle.std.proofs.Common.{sym}
use Rattle.torrent_contents.proofs.Hashing.{inside-text}
use Rattle.torrent_contents.proofs.piece_hash.Goals as goal

pub hash-requires : goal.hash-requires
hash-requires c = inside-text c.args.text.now c.in_ok-t.t (sym c.in_ok-t.ensures)
