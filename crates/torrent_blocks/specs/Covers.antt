-- What it is for parts to be a block's bytes, for files to be laid out in pieces, and what each refusal is caused by. Assumes nothing: these are definitions.
use Rattle.std.specs.Prelude.{◌≡◌, ◌⊎◌, List, [], ◌∷◌, ◌++◌, ℕ, zero, suc, ◌+◌, ◌*◌, ◌≤◌, ◌<◌, length, get_or}
use Rattle.refusal.specs.Numbers as no
use Rattle.refusal.specs.Limits.{longest_block}
use Rattle.torrent_blocks.specs.Rules.{Lawful}
use Rattle.torrent_blocks.specs.Spans.{Span, nowhere, lengths, FilePart, parts_of, held_in}
use Rattle.torrent_blocks.specs.Answers.{Spot, pieces}

-- ---- parts

-- the n numbers from a on
unfoldable pub run : ℕ → ℕ → List ℕ
run a zero = []
run a (suc n) = a ∷ run (suc a) n

-- the content offsets of the parts' bytes, in the parts' order
unfoldable pub places_of : List Span → List FilePart → List ℕ
places_of ss [] = []
places_of ss (p ∷ ps) = run ((get_or ss p.file nowhere).start + p.offset) p.size ++ places_of ss ps

-- a part is of a file that is there, is not empty, and ends within its file
pub record Within (ss : List Span) (p : FilePart) : Type 0 where
  pub file : p.file < length ss
  pub some : 0 < p.size
  pub ends : p.offset + p.size ≤ (get_or ss p.file nowhere).size

-- every part is within its file, and the files ascend from k on
unfoldable pub Neat : List Span → ℕ → List FilePart → Type 0
Neat ss k [] = Unit {0}
Neat ss k (p ∷ ps) = (k ≤ p.file) × Within ss p × Neat ss (suc p.file) ps

-- the parts are the n bytes from x on, once each and in order
pub record Covers (ss : List Span) (x n : ℕ) (ps : List FilePart) : Type 0 where
  pub bytes : places_of ss ps ≡ run x n
  pub neat : Neat ss 0 ps

-- ---- files

-- each file starts at b or later, and not before the one before it ends
unfoldable pub Ordered : ℕ → List Span → Type 0
Ordered b [] = Unit {0}
Ordered b (s ∷ ss) = (b ≤ s.start) × Ordered (s.start + s.size) ss

-- the place x of the content lies in a file
unfoldable pub InSome : List Span → ℕ → Type 0
InSome [] x = ⊥
InSome (s ∷ ss) x = ((s.start ≤ x) × (x < s.start + s.size)) ⊎ InSome ss x

-- files are in order, and in each piece their bytes come first: files one after the other are such, and so are files at piece boundaries
pub record Laid (ss : List Span) (pl : ℕ) : Type 0 where
  pub ordered : Ordered 0 ss
  pub fills : (p o : ℕ) → o < held_in ss pl p → InSome ss (p * pl + o)
  pub holds : (p o : ℕ) → o < pl → InSome ss (p * pl + o) → o < held_in ss pl p

-- ---- causes of refusals, by number

-- what the paper asks of a block
pub record Block (held o n : ℕ) : Type 0 where
  pub some : 1 ≤ n
  pub most : n ≤ longest_block
  pub ends : o + n ≤ held

-- the number rules hold for the files
abbrev pub Rules : List Span → ℕ → Type 0
Rules ss pl = Lawful pl (lengths ss) (pieces ss pl)

-- of the length of a piece
pub data SizeCause (ss : List Span) (pl p : ℕ) : ℕ → Type 0 where
  size-range : (Rules ss pl → ⊥) → SizeCause ss pl p no.range
  size-beyond : Rules ss pl → pieces ss pl ≤ p → SizeCause ss pl p no.beyond

-- of a block of n bytes at a spot, whose output has room for so many numbers
pub data BlockCause (ss : List Span) (pl : ℕ) (s : Spot) (n count : ℕ) : ℕ → Type 0 where
  block-range : (Rules ss pl → ⊥) → BlockCause ss pl s n count no.range
  block-beyond : Rules ss pl → pieces ss pl ≤ s.piece → BlockCause ss pl s n count no.beyond
  block-outside : Rules ss pl → s.piece < pieces ss pl → (Block (held_in ss pl s.piece) s.offset n → ⊥) → BlockCause ss pl s n count no.outside
  block_room : Rules ss pl → s.piece < pieces ss pl → Block (held_in ss pl s.piece) s.offset n
      → count < 3 * length (parts_of ss (s.piece * pl + s.offset) n) → BlockCause ss pl s n count no.room

-- of a file's byte
pub data ByteCause (ss : List Span) (pl f o : ℕ) : ℕ → Type 0 where
  byte-range : (Rules ss pl → ⊥) → ByteCause ss pl f o no.range
  byte-beyond : Rules ss pl → length ss ≤ f → ByteCause ss pl f o no.beyond
  byte-outside : Rules ss pl → f < length ss → (get_or ss f nowhere).size ≤ o → ByteCause ss pl f o no.outside
