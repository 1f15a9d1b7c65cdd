-- Demand 1 of `torrent_contents`: what a torrent holds. Assumes nothing.
use Rattle.refusal.specs.Paper.{paper}
use Rattle.refusal.specs.declared.Part.{Part}
use Rattle.refusal.specs.declared.Refusal.{Refusal}
use Rattle.torrent_contents.specs.declared.Entry.{Entry}
use Rattle.std.specs.Prelude.{List, ◌≡◌, ℕ, Bool, Result}
use Rattle.torrent_blocks.specs.declared.PieceNumber.{PieceNumber}
use Rattle.torrent_contents.specs.Files.{entry_of}
use Rattle.torrent_contents.specs.Paths.{element_paper, element_of}
use Rattle.torrent_contents.specs.Pieces.{hash_of, check_of}
use Rattle.torrent_contents.specs.declared.Element.{Element}
use Rattle.demands.specs.One.{Lent, now}

-- torrent_contents::file
abbrev pub file-ensures : (text : Lent (List ℕ)) (number : ℕ) → Result Entry Refusal → Type 0
file-ensures text number r = paper r ≡ entry_of (now text.entry) number

-- torrent_contents::element_at
abbrev pub element_at-ensures : (text : Lent (List ℕ)) (at : ℕ) → Result Element Refusal → Type 0
element_at-ensures text at r = element_paper r ≡ element_of (now text.entry) at

-- torrent_contents::piece_hash
abbrev pub piece_hash-ensures : (text : Lent (List ℕ)) (piece : PieceNumber) → Result Part Refusal → Type 0
piece_hash-ensures text piece r = paper r ≡ hash_of (now text.entry) piece.0

-- torrent_contents::check_piece
abbrev pub check_piece-ensures : (text : Lent (List ℕ)) (piece : PieceNumber) (bytes : Lent (List ℕ)) → Result Bool Refusal → Type 0
check_piece-ensures text piece bytes r = paper r ≡ check_of (now text.entry) piece.0 (now bytes.entry)
