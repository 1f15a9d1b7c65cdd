-- Files and the elements of paths walked one after the other, each from the place past the one before. Assumes nothing: these are definitions.
use Rattle.std.specs.Prelude.{◌≡◌, List, [], ◌∷◌, ℕ, ◌+◌, length}
use Rattle.refusal.specs.Paper.{taken, refused}
use Rattle.refusal.specs.Numbers.{byte}
use Rattle.refusal.specs.Parts.{bytes_at}
use Rattle.refusal.specs.declared.Part.{Part}
use Rattle.bencode.specs.Value.{Value, Items, str, int, list, dict, none, item}
use Rattle.bencode_walk.specs.Lookup.{Under, nothing, under}
use Rattle.bencode.specs.Decode.{decode}
use Rattle.torrent_metainfo.specs.Keys.{path_key, files_key}
use Rattle.torrent_metainfo.specs.Reading.{file_at}
use Rattle.torrent_metainfo.specs.declared.File.{File}
use Rattle.torrent_metainfo.specs.declared.Torrent.{Torrent}
use Rattle.torrent_contents.specs.declared.Entry.{Entry}
use Rattle.torrent_contents.specs.Files.{inside, in_info, entry, all_entries}
use Rattle.torrent_contents.specs.Paths.{element, done, element_of}

-- the bytes of the strings in a list
unfoldable pub strings_in : Items → List (List ℕ)
strings_in none = []
strings_in (item (str bs) vs) = bs ∷ strings_in vs
strings_in (item (int z) vs) = strings_in vs
strings_in (item (list ws) vs) = strings_in vs
strings_in (item (dict es) vs) = strings_in vs

abbrev pub strings_of : Value → List (List ℕ)
strings_of (str bs) = []
strings_of (int z) = []
strings_of (list vs) = strings_in vs
strings_of (dict es) = []

abbrev pub strings_under : Under → List (List ℕ)
strings_under nothing = []
strings_under (under q v) = strings_of v

-- the path of the file that the value at p is
abbrev pub path_of : ℕ → Value → List (List ℕ)
path_of p v = strings_under (inside p v path_key)

-- from p on, `element_at` gives these elements in order, and then the end
pub data Elements (s : List ℕ) : ℕ → List (List ℕ) → Type 0 where
  ends : (p : ℕ) → element_of s p ≡ taken (done (p + 1)) → Elements s p []
  goes : (p : ℕ) (x : Part) (q : ℕ) (l : List (List ℕ)) → element_of s p ≡ taken (element x q) → Elements s q l → Elements s p (bytes_at s x ∷ l)

-- from p on, and from o of the content on, `torrent_metainfo::file_at` gives the files that these values are, with their entries, and each one's path
-- its elements; then it refuses the list's e
pub data FilesWalked (s : List ℕ) : ℕ → ℕ → Items → List Entry → Type 0 where
  last : (p o : ℕ) → file_at s p ≡ refused byte p → FilesWalked s p o none []
  next : (p o : ℕ) (v : Value) (vs : Items) (f : File) (es : List Entry) → file_at s p ≡ taken f → Elements s f.path (path_of p v)
      → FilesWalked s f.next (o + f.length) vs es → FilesWalked s p o (item v vs) (entry o f ∷ es)

-- the files of a torrent t of many files, which the text s is
pub record Walked (s : List ℕ) (t : Torrent) : Type 0 where
  pub value : Value
  pub items : Items
  pub entries : List Entry
  pub decoded : decode s ≡ taken value
  pub listed : in_info value files_key ≡ under t.content.place (list items)
  pub numbered : all_entries value t ≡ taken entries
  pub counted : length entries ≡ t.content.files
  pub walked : FilesWalked s (t.content.place + 1) 0 items entries
