-- Where a block falls, where a file's byte falls, and how long a piece is: what each call is to answer, over any files. Assumes nothing: these are definitions.
use Rattle.refusal.specs.declared.Refusal.{Refusal}
use Rattle.torrent_blocks.specs.declared.Spot as code
use Rattle.std.specs.Prelude.{Bool, cond, ◌&&◌, List, [], ◌∷◌, ◌++◌, ℕ, ◌+◌, ◌*◌, ◌/◌, ◌%◌, ltb, leb, length, get_or, drop, Err, Ok, Result}
use Rattle.refusal.specs.Paper.{Outcome, taken, refused, refusal, Left as Leaves}
pub use Rattle.refusal.specs.Paper.{left}
use Rattle.refusal.specs.Numbers.{range, beyond, outside, room}
use Rattle.refusal.specs.Limits.{longest_block}
use Rattle.torrent_blocks.specs.Rules.{pieces_of, lawful}
use Rattle.torrent_blocks.specs.Spans.{Span, nowhere, lengths, end_of, FilePart, parts_of, held_in}

-- ---- the code's answers in document 01's words

-- a piece and an offset in it
pub record Spot : Type 0 where
  pub piece : ℕ
  pub offset : ℕ

-- piece p, offset o
abbrev pub spot : ℕ → ℕ → Spot
spot p o = record { piece = p; offset = o }

-- where a byte falls
abbrev pub place_paper : Result code.Spot Refusal → Outcome Spot
place_paper (Ok s) = taken (spot s.piece.0 s.offset.0)
place_paper (Err r) = refusal r

-- ---- files ss and a piece length

-- how many pieces the files have
abbrev pub pieces : List Span → ℕ → ℕ
pieces ss pl = pieces_of (end_of ss) pl

-- the number rules hold
abbrev pub keeps : List Span → ℕ → Bool
keeps ss pl = lawful pl (lengths ss) (pieces ss pl)

-- what is asked of a piece: 11, then 31
abbrev pub of_piece : {A : Type 0} → List Span → ℕ → ℕ → Outcome A → Outcome A
of_piece ss pl p x = cond (keeps ss pl) (cond (ltb p (pieces ss pl)) x (refused beyond 0)) (refused range 0)

-- the bytes of a piece
unfoldable pub size_of : List Span → ℕ → ℕ → Outcome ℕ
size_of ss pl p = of_piece ss pl p (taken (held_in ss pl p))

-- a block has 1 to 16,384 bytes and ends within its piece
abbrev pub lies : ℕ → ℕ → ℕ → Bool
lies held o n = leb 1 n && (leb n longest_block && leb (o + n) held)

-- the parts of a block of n bytes at a spot, before any output is looked at
unfoldable pub block_of : List Span → ℕ → Spot → ℕ → Outcome (List FilePart)
block_of ss pl s n =
    of_piece ss pl s.piece
    (cond (lies (held_in ss pl s.piece) s.offset n) (taken (parts_of ss (s.piece * pl + s.offset) n)) (refused outside 0))

-- the piece of a place in the content, and the offset there
abbrev pub spot_at : ℕ → ℕ → Spot
spot_at pl x = spot (x / pl) (x % pl)

-- where byte o of file f falls
unfoldable pub byte_of : List Span → ℕ → ℕ → ℕ → Outcome Spot
byte_of ss pl f o =
    cond (keeps ss pl)
    (cond (ltb f (length ss))
    (cond (ltb o (get_or ss f nowhere).size) (taken (spot_at pl ((get_or ss f nowhere).start + o))) (refused outside 0))
    (refused beyond 0))
    (refused range 0)

-- ---- the lent output

-- parts as numbers: file, offset and length of each
unfoldable pub flat : List FilePart → List ℕ
flat [] = []
flat (p ∷ ps) = p.file ∷ p.offset ∷ p.size ∷ flat ps

-- what a call leaves: how many parts were written or a refusal, and the output
abbrev pub Left : Type 0
Left = Leaves ℕ

-- the parts from the output's start on and the rest as it was, where they fit; else 37 and all of it as it was
unfoldable pub parts_written : Outcome (List FilePart) → List ℕ → Left
parts_written (taken ps) out =
    cond (leb (3 * length ps) (length out)) (left (taken (length ps)) (flat ps ++ drop (3 * length ps) out)) (left (refused room 0) out)
parts_written (refused r q) out = left (refused r q) out
