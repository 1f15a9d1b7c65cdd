-- What stands at a place of a text, and the bytes printed for it. Assumes nothing: these are definitions.
-- They serve inner contracts alone and need not be believed: `ready` of torrent_lines/proofs/Reading.antt ties them to Lines.antt.
use Rattle.std.specs.Prelude.{◌≡◌, List, [], ◌∷◌, ◌++◌, ℕ, ◌+◌, ◌≤◌}
use Rattle.refusal.specs.Paper.{taken}
use Rattle.bencode.specs.Value.{Items}
use Rattle.bencode_walk.specs.Stands.{StandItems}
use Rattle.torrent_blocks.specs.Rules.{sum}
use Rattle.torrent_metainfo.specs.Rules.{elements_of, lengths_of}
use Rattle.torrent_lines.specs.Lines.{escaped, elements_in, files_in, file_lines}

-- each element after a mark: m before the first, "/" before the others
unfoldable pub marked : ℕ → List (List ℕ) → List ℕ
marked m [] = []
marked m (x ∷ xs) = m ∷ (escaped x ++ marked 47 xs)

-- at p stand the elements of a path, up to its end, which print as w after the mark m
pub record PathPrinted (s : List ℕ) (p m : ℕ) (w : List ℕ) : Type 0 where
  pub deep : ℕ
  pub items : Items
  pub stands : StandItems s deep p items
  pub end : ℕ
  pub good : elements_of p items ≡ taken end
  pub printed : w ≡ marked m (elements_in items)

-- at p stand files, up to the end of their list, which print as w where the first has the content offset o
pub record FilesPrinted (s : List ℕ) (p o : ℕ) (w : List ℕ) : Type 0 where
  pub deep : ℕ
  pub levels : deep ≤ 32
  pub items : Items
  pub stands : StandItems s deep p items
  pub lengths : List ℕ
  pub good : lengths_of p items ≡ taken lengths
  pub small : o + sum lengths ≤ 281474976710656
  pub printed : w ≡ file_lines o (files_in items)

-- a place that no listing comes near
abbrev pub far : ℕ
far = 4398046511104
