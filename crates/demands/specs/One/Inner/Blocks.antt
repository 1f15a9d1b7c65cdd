-- Demand 1 of `torrent_blocks`: the three numberings, and the number rules for torrents. Assumes nothing.
use Rattle.std.specs.Prelude.{Bool, List, ◌≡◌, ℕ, ◌+◌, min}
use Rattle.torrent_blocks.specs.Rules.{piece_length_of, file_length, file_count, largest, pieces_of, sum, total_and}
use Rattle.torrent_blocks.specs.Numberings.{widest, content_offset, piece_number, piece_offset, piece_bytes_of}
use Rattle.torrent_blocks.specs.declared.ContentOffset.{ContentOffset}
use Rattle.torrent_blocks.specs.declared.PieceNumber.{PieceNumber}
use Rattle.torrent_blocks.specs.declared.PieceOffset.{PieceOffset}
use Rattle.torrent_blocks.specs.declared.rules.Total.{Total}
use Rattle.demands.specs.One.{Lent, now}

-- torrent_blocks::content_offset
abbrev pub content_offset-ensures : (piece_length : ℕ) (piece : PieceNumber) (offset : PieceOffset) → ContentOffset → Type 0
content_offset-ensures piece_length piece offset r = r.0 ≡ content_offset piece_length piece.0 offset.0

-- torrent_blocks::piece_number
abbrev pub piece_number-ensures : (piece_length : ℕ) (place : ContentOffset) → PieceNumber → Type 0
piece_number-ensures piece_length place r = r.0 ≡ piece_number piece_length place.0

-- torrent_blocks::piece_numbered
abbrev pub piece_numbered-ensures : (n : ℕ) → PieceNumber → Type 0
piece_numbered-ensures n r = r.0 ≡ min n widest

-- torrent_blocks::piece_offset
abbrev pub piece_offset-ensures : (piece_length : ℕ) (place : ContentOffset) → PieceOffset → Type 0
piece_offset-ensures piece_length place r = r.0 ≡ piece_offset piece_length place.0

-- torrent_blocks::piece_bytes
abbrev pub piece_bytes-ensures : (total : Total) (piece_length : ℕ) (piece : PieceNumber) → ℕ → Type 0
piece_bytes-ensures total piece_length piece r = r ≡ piece_bytes_of total.0 piece_length piece.0

-- torrent_blocks::rules::legal_piece_length
abbrev pub legal_piece_length-ensures : (n : ℕ) → Bool → Type 0
legal_piece_length-ensures n r = r ≡ piece_length_of n

-- torrent_blocks::rules::legal_file_length
abbrev pub legal_file_length-ensures : (n : ℕ) → Bool → Type 0
legal_file_length-ensures n r = r ≡ file_length n

-- torrent_blocks::rules::legal_file_count
abbrev pub legal_file_count-ensures : (n : ℕ) → Bool → Type 0
legal_file_count-ensures n r = r ≡ file_count n

-- torrent_blocks::rules::with_file
abbrev pub with_file-ensures : (total : Total) (n : ℕ) → Total → Type 0
with_file-ensures total n r = r.0 ≡ min (total.0 + n) largest

-- torrent_blocks::rules::with_files
abbrev pub with_files-ensures : (total : Total) (lengths : Lent (List ℕ)) → Total → Type 0
with_files-ensures total lengths r = r.0 ≡ min (total.0 + sum (now lengths.entry)) largest

-- torrent_blocks::rules::pieces
abbrev pub pieces-ensures : (total : Total) (piece_length : ℕ) → ℕ → Type 0
pieces-ensures total piece_length r = r ≡ pieces_of total.0 piece_length

-- torrent_blocks::rules::legal_total
abbrev pub legal_total-ensures : (total : Total) (piece_length : ℕ) → Bool → Type 0
legal_total-ensures total piece_length r = r ≡ total_and total.0 (pieces_of total.0 piece_length)
