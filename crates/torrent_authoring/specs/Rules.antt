-- The writer's rules one by one, and why a torrent is not written. Assumes nothing: these are definitions.
use Rattle.std.specs.Prelude.{◌≡◌, true, false, List, ℕ, ◌*◌, ◌≤◌, ◌<◌, eqb}
use Rattle.std.proofs.Math.ListN as seq
use Rattle.refusal.specs.Paper.{Outcome}
use Rattle.refusal.specs.Numbers as no
use Rattle.refusal.specs.Limits.{most_text}
use Rattle.torrent_blocks.specs.Rules.{piece_length_of, file_length, pieces_of, total_and}
use Rattle.torrent_metainfo.specs.Rules.{provided, good_name}
use Rattle.torrent_authoring.specs.Writing.{Fields, text_of}

-- pieces that the content makes
abbrev pub piece_count_of : Fields → ℕ
piece_count_of f = pieces_of f.length f.piece_length_of

-- name, piece length, length, total and number of pieces, length of pieces
unfoldable pub ruled : {A : Type 0} → Fields → Outcome A → Outcome A
ruled f o =
    provided (good_name f.name) no.name 0
    (provided (piece_length_of f.piece_length_of) no.range 0
    (provided (file_length f.length) no.range 0
    (provided (total_and f.length (piece_count_of f)) no.range 0
    (provided (eqb (seq.length f.pieces) (20 * piece_count_of f)) no.pieces 0 o))))

-- every one of them is kept
pub record Ruled (f : Fields) : Type 0 where
  pub name : good_name f.name ≡ true
  pub piece : piece_length_of f.piece_length_of ≡ true
  pub file : file_length f.length ≡ true
  pub total : total_and f.length (piece_count_of f) ≡ true
  pub hashes : eqb (seq.length f.pieces) (20 * piece_count_of f) ≡ true

-- the first rule that is broken gives the number: of the fields alone
pub data Broken (f : Fields) : ℕ → Type 0 where
  bad_name : good_name f.name ≡ false → Broken f no.name
  bad-piece : good_name f.name ≡ true → piece_length_of f.piece_length_of ≡ false → Broken f no.range
  bad-file : good_name f.name ≡ true → piece_length_of f.piece_length_of ≡ true → file_length f.length ≡ false → Broken f no.range
  bad-total : good_name f.name ≡ true → piece_length_of f.piece_length_of ≡ true → file_length f.length ≡ true → total_and f.length (piece_count_of f) ≡ false → Broken f no.range
  bad-pieces : good_name f.name ≡ true → piece_length_of f.piece_length_of ≡ true → file_length f.length ≡ true → total_and f.length (piece_count_of f) ≡ true
      → eqb (seq.length f.pieces) (20 * piece_count_of f) ≡ false → Broken f no.pieces

-- and for the lent output o
pub data NotWritten (f : Fields) (o : List ℕ) : ℕ → Type 0 where
  broken : {n : ℕ} → Broken f n → NotWritten f o n
  too_long : Ruled f → most_text < seq.length (text_of f) → NotWritten f o no.long
  no_room : Ruled f → seq.length (text_of f) ≤ most_text → seq.length o < seq.length (text_of f) → NotWritten f o no.room
