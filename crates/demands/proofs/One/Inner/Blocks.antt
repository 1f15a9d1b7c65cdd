-- Demand 1 of `torrent_blocks`: the three numberings, and the number rules for torrents. Assumes nothing.
use Rattle.std.specs.Prelude.{List, ℕ}
use Rattle.std.proofs.Common.{sym, ◌∙◌}
use Rattle.torrent_blocks.specs.declared.ContentOffset.{ContentOffset}
use Rattle.torrent_blocks.specs.declared.PieceNumber.{PieceNumber}
use Rattle.torrent_blocks.specs.declared.PieceOffset.{PieceOffset}
use Rattle.torrent_blocks.specs.declared.rules.Total.{Total}
use Rattle.torrent_blocks.proofs.Determined as laws
use Rattle.demands.specs.One.{Lent, Determined}
use Rattle.demands.specs.One.Inner.Blocks.{content_offset-ensures, piece_number-ensures, piece_numbered-ensures, piece_offset-ensures, piece_bytes-ensures, legal_piece_length-ensures, legal_file_length-ensures, legal_file_count-ensures, with_file-ensures, with_files-ensures, pieces-ensures, legal_total-ensures}

-- torrent_blocks::content_offset
pub content_offset-determined : (piece_length : ℕ) (piece : PieceNumber) (offset : PieceOffset) → Determined (content_offset-ensures piece_length piece offset)
content_offset-determined piece_length piece offset r r' e f = laws.content-determined _ r r' e f

-- torrent_blocks::piece_number
pub piece_number-determined : (piece_length : ℕ) (place : ContentOffset) → Determined (piece_number-ensures piece_length place)
piece_number-determined piece_length place r r' e f = laws.number-determined _ r r' e f

-- torrent_blocks::piece_numbered
pub piece_numbered-determined : (n : ℕ) → Determined (piece_numbered-ensures n)
piece_numbered-determined n r r' e f = laws.number-determined _ r r' e f

-- torrent_blocks::piece_offset
pub piece_offset-determined : (piece_length : ℕ) (place : ContentOffset) → Determined (piece_offset-ensures piece_length place)
piece_offset-determined piece_length place r r' e f = laws.offset-determined _ r r' e f

-- torrent_blocks::piece_bytes
pub piece_bytes-determined : (total : Total) (piece_length : ℕ) (piece : PieceNumber) → Determined (piece_bytes-ensures total piece_length piece)
piece_bytes-determined total piece_length piece r r' e f = e ∙ sym f

-- torrent_blocks::rules::legal_piece_length
pub legal_piece_length-determined : (n : ℕ) → Determined (legal_piece_length-ensures n)
legal_piece_length-determined n r r' e f = e ∙ sym f

-- torrent_blocks::rules::legal_file_length
pub legal_file_length-determined : (n : ℕ) → Determined (legal_file_length-ensures n)
legal_file_length-determined n r r' e f = e ∙ sym f

-- torrent_blocks::rules::legal_file_count
pub legal_file_count-determined : (n : ℕ) → Determined (legal_file_count-ensures n)
legal_file_count-determined n r r' e f = e ∙ sym f

-- torrent_blocks::rules::with_file
pub with_file-determined : (total : Total) (n : ℕ) → Determined (with_file-ensures total n)
with_file-determined total n r r' e f = laws.total-determined _ _ r r' e f

-- torrent_blocks::rules::with_files
pub with_files-determined : (total : Total) (lengths : Lent (List ℕ)) → Determined (with_files-ensures total lengths)
with_files-determined total lengths r r' e f = laws.total-determined _ _ r r' e f

-- torrent_blocks::rules::pieces
pub pieces-determined : (total : Total) (piece_length : ℕ) → Determined (pieces-ensures total piece_length)
pieces-determined total piece_length r r' e f = e ∙ sym f

-- torrent_blocks::rules::legal_total
pub legal_total-determined : (total : Total) (piece_length : ℕ) → Determined (legal_total-ensures total piece_length)
legal_total-determined total piece_length r r' e f = e ∙ sym f
