-- Demand 1 of `torrent_contents`: what a torrent holds. Assumes nothing.
use Rattle.std.specs.Prelude.{List, ℕ}
use Rattle.torrent_blocks.specs.declared.PieceNumber.{PieceNumber}
use Rattle.torrent_contents.proofs.Determined as laws
use Rattle.refusal.proofs.Outcomes.{paper-determined}
use Rattle.demands.specs.One.{Lent, Determined}
use Rattle.demands.specs.One.Doors.Contents.{file-ensures, element_at-ensures, piece_hash-ensures, check_piece-ensures}

-- torrent_contents::file
pub file-determined : (text : Lent (List ℕ)) (number : ℕ) → Determined (file-ensures text number)
file-determined text number r r' e f = paper-determined _ r r' e f

-- torrent_contents::element_at
pub element_at-determined : (text : Lent (List ℕ)) (at : ℕ) → Determined (element_at-ensures text at)
element_at-determined text at r r' e f = laws.element-determined _ _ r r' e f

-- torrent_contents::piece_hash
pub piece_hash-determined : (text : Lent (List ℕ)) (piece : PieceNumber) → Determined (piece_hash-ensures text piece)
piece_hash-determined text piece r r' e f = paper-determined _ r r' e f

-- torrent_contents::check_piece
pub check_piece-determined : (text : Lent (List ℕ)) (piece : PieceNumber) (bytes : Lent (List ℕ)) → Determined (check_piece-ensures text piece bytes)
check_piece-determined text piece bytes r r' e f = paper-determined _ r r' e f
