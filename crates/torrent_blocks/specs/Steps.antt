-- What the steps of one pass over the lengths keep. Assumes nothing: these are definitions.
-- They serve inner contracts alone and need not be believed: torrent_blocks/proofs/Ends.antt ties them to Answers.antt.
use Rattle.std.specs.Prelude.{◌≡◌, List, ◌∷◌, ℕ, ◌+◌, min}
use Rattle.torrent_blocks.specs.Rules.{sum, largest}
use Rattle.torrent_blocks.specs.Spans.{Span, FilePart, part, joined_from, parts_from}
use Rattle.torrent_blocks.specs.declared.parts.File.{File}
use Rattle.torrent_blocks.specs.declared.parts.Files.{Files}
use Rattle.torrent_blocks.specs.declared.parts.Part.{Part}
use Rattle.torrent_blocks.specs.declared.parts.Parts.{Parts}

-- the files from one on
abbrev pub files_from : Files → List Span
files_from f = joined_from f.start.0 f.lengths.now

-- the running total of all, once those from one on are added to what stands before it
abbrev pub total_from : Files → ℕ
total_from f = min (f.start.0 + sum f.lengths.now) largest

-- x is the first of the files f, and r are the others
pub record Split (f : Files) (x : File) (r : Files) : Type 0 where
  pub size : ℕ
  pub lengths : f.lengths.now ≡ size ∷ r.lengths.now
  pub number : x.number ≡ f.number
  pub start : x.start.0 ≡ f.start.0
  pub end : x.end.0 ≡ min (f.start.0 + size) largest
  pub next : r.number ≡ f.number + 1
  pub ends : r.start.0 ≡ x.end.0

-- the parts of from..to in the files from one on
abbrev pub parts_in : Files → ℕ → ℕ → List FilePart
parts_in f from to = parts_from f.number (files_from f) from to

-- the parts that are still to come
abbrev pub parts_left : Parts → List FilePart
parts_left p = parts_in p.files p.from.0 p.to.0

-- a part as a definition has it
abbrev pub part_of : Part → FilePart
part_of p = part p.file p.offset p.size
