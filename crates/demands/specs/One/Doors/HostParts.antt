-- Demand 1 of `wardrail`, for C: files, frames and blocks. Assumes nothing.
use Rattle.std.specs.Prelude.{List, ℕ}
use Rattle.refusal.specs.Paper.{map}
use Rattle.peer_wire.specs.Frames.{read_of}
use Rattle.peer_wire.specs.Handshake.{shake_of}
use Rattle.torrent_blocks.specs.Answers.{spot, block_of, parts_written, byte_of, size_of}
use Rattle.torrent_blocks.specs.Spans.{joined_files}
use Rattle.torrent_metainfo.specs.Reading.{file_at}
use Rattle.torrent_contents.specs.Files.{entry_of}
use Rattle.torrent_contents.specs.Paths.{element_of}
use Rattle.torrent_contents.specs.Pieces.{hash_of, check_of}
use Rattle.wardrail.specs.Files.{file_detail, walked_detail, element_detail, part_detail, yes_detail}
use Rattle.wardrail.specs.Frames.{frame_told, shake_told}
use Rattle.wardrail.specs.Mapping.{spot_detail}
use Rattle.wardrail.specs.Said.{Tells}
use Rattle.wardrail.specs.Writers.{Wrote}
use Rattle.demands.specs.One.{Lent, now}

-- wardrail::files::wardrail_file
abbrev pub file-ensures : (text : Lent (List ℕ)) (number : ℕ) → ℕ → Lent (List ℕ) → Type 0
file-ensures text number r detail =
    Tells (map file_detail (entry_of (now text.entry) number)) (now detail.entry) r (now detail.exit)

-- wardrail::files::wardrail_file_at
abbrev pub file_at-ensures : (text : Lent (List ℕ)) (at : ℕ) → ℕ → Lent (List ℕ) → Type 0
file_at-ensures text at r detail =
    Tells (map walked_detail (file_at (now text.entry) at)) (now detail.entry) r (now detail.exit)

-- wardrail::files::wardrail_element_at
abbrev pub element_at-ensures : (text : Lent (List ℕ)) (at : ℕ) → ℕ → Lent (List ℕ) → Type 0
element_at-ensures text at r detail =
    Tells (map element_detail (element_of (now text.entry) at)) (now detail.entry) r (now detail.exit)

-- wardrail::files::wardrail_piece_hash
abbrev pub piece_hash-ensures : (text : Lent (List ℕ)) (piece : ℕ) → ℕ → Lent (List ℕ) → Type 0
piece_hash-ensures text piece r detail =
    Tells (map part_detail (hash_of (now text.entry) piece)) (now detail.entry) r (now detail.exit)

-- wardrail::files::wardrail_piece_check
abbrev pub piece-check-ensures : (text : Lent (List ℕ)) (piece : ℕ) (bytes : Lent (List ℕ)) → ℕ → Lent ℕ → Type 0
piece-check-ensures text piece bytes r detail =
    Tells (map yes_detail (check_of (now text.entry) piece (now bytes.entry))) (now detail.entry) r (now detail.exit)

-- wardrail::frames::wardrail_frame
abbrev pub frame-ensures : (bytes : Lent (List ℕ)) → ℕ → Lent (List ℕ) → Type 0
frame-ensures bytes r detail =
    Tells (frame_told (read_of (now bytes.entry))) (now detail.entry) r (now detail.exit)

-- wardrail::frames::wardrail_handshake
abbrev pub handshake-ensures : (bytes info : Lent (List ℕ)) → ℕ → Lent (List ℕ) → Type 0
handshake-ensures bytes info r detail =
    Tells (shake_told (shake_of (now info.entry) (now bytes.entry))) (now detail.entry) r (now detail.exit)

-- wardrail::mapping::wardrail_block
abbrev pub block-ensures : (lengths : Lent (List ℕ)) (piece_length piece offset count : ℕ) → ℕ → Lent (List ℕ) → Lent ℕ → Type 0
block-ensures lengths piece_length piece offset count r out detail =
    Wrote (parts_written (block_of (joined_files (now lengths.entry)) piece_length (spot piece offset) count) (now out.entry)) (now detail.entry) r (now detail.exit) (now out.exit)

-- wardrail::mapping::wardrail_byte
abbrev pub byte-ensures : (lengths : Lent (List ℕ)) (piece_length file offset : ℕ) → ℕ → Lent (List ℕ) → Type 0
byte-ensures lengths piece_length file offset r detail =
    Tells (map spot_detail (byte_of (joined_files (now lengths.entry)) piece_length file offset)) (now detail.entry) r (now detail.exit)

-- wardrail::mapping::wardrail_piece_size
abbrev pub piece_size-ensures : (lengths : Lent (List ℕ)) (piece_length piece : ℕ) → ℕ → Lent ℕ → Type 0
piece_size-ensures lengths piece_length piece r detail =
    Tells (size_of (joined_files (now lengths.entry)) piece_length piece) (now detail.entry) r (now detail.exit)
