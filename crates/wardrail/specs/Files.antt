-- What files, paths and pieces of a torrent say to C, in numbers. Assumes nothing: these are definitions.
use Rattle.std.specs.Prelude.{Bool, cond, List, [], ◌∷◌, ℕ}
use Rattle.refusal.specs.declared.Part.{Part}
use Rattle.torrent_metainfo.specs.declared.File.{File}
use Rattle.torrent_contents.specs.declared.Entry.{Entry}
use Rattle.torrent_contents.specs.Paths.{PathStep, element, done}

-- where it starts in the content, its length, the place of its path, and 1 for a single file
abbrev pub file_detail : Entry → List ℕ
file_detail e = e.offset.0 ∷ e.length ∷ e.path ∷ cond e.single 1 0 ∷ []

-- its length, the place of its path, and the place past it, where the next file stands
abbrev pub walked_detail : File → List ℕ
walked_detail f = f.length ∷ f.path ∷ f.next ∷ []

-- 1, an element's first byte and length, and the place of the next; or 0 and the place past the path
abbrev pub element_detail : PathStep → List ℕ
element_detail (element x q) = 1 ∷ x.from ∷ x.len ∷ q ∷ []
element_detail (done q) = 0 ∷ 0 ∷ 0 ∷ q ∷ []

-- first byte and length
abbrev pub part_detail : Part → List ℕ
part_detail x = x.from ∷ x.len ∷ []

-- 1 for yes, 0 for no
abbrev pub yes_detail : Bool → ℕ
yes_detail b = cond b 1 0
