-- Demand 1 of `torrent_blocks`: where a block falls, where a byte lies, and how long a piece is. Assumes nothing.
use Rattle.refusal.specs.Paper.{paper}
use Rattle.refusal.specs.declared.Refusal.{Refusal}
use Rattle.std.specs.Prelude.{List, ◌≡◌, ℕ, Result}
use Rattle.torrent_blocks.specs.Answers.{spot, block_of, left, parts_written, place_paper, byte_of, size_of}
use Rattle.torrent_blocks.specs.Spans.{joined_files}
use Rattle.torrent_blocks.specs.declared.PieceNumber.{PieceNumber}
use Rattle.torrent_blocks.specs.declared.PieceOffset.{PieceOffset}
use Rattle.torrent_blocks.specs.declared.Spot.{Spot}
use Rattle.demands.specs.One.{Lent, now}

-- torrent_blocks::block
abbrev pub block-ensures : (lengths : Lent (List ℕ)) (piece_length : ℕ) (piece : PieceNumber) (offset : PieceOffset) (count : ℕ) → Result ℕ Refusal → Lent (List ℕ) → Type 0
block-ensures lengths piece_length piece offset count r out =
    left (paper r) (now out.exit) ≡ parts_written (block_of (joined_files (now lengths.entry)) piece_length (spot piece.0 offset.0) count) (now out.entry)

-- torrent_blocks::byte
abbrev pub byte-ensures : (lengths : Lent (List ℕ)) (piece_length file offset : ℕ) → Result Spot Refusal → Type 0
byte-ensures lengths piece_length file offset r = place_paper r ≡ byte_of (joined_files (now lengths.entry)) piece_length file offset

-- torrent_blocks::piece_size
abbrev pub piece_size-ensures : (lengths : Lent (List ℕ)) (piece_length : ℕ) (piece : PieceNumber) → Result ℕ Refusal → Type 0
piece_size-ensures lengths piece_length piece r = paper r ≡ size_of (joined_files (now lengths.entry)) piece_length piece.0
