-- What a torrent is: a predicate on decoded values, without places and without an order of checks. Assumes nothing: these are definitions.
use Rattle.std.specs.Prelude.{◌≡◌, List, [], ◌∷◌, ℕ, ◌*◌, ◌≤◌, pos, length}
use mathlib.Core.List.{Memᴰ as In}
use Rattle.refusal.specs.Limits.{longest_file, most_files, most_pieces}
use Rattle.bencode.specs.Value.{Value, Items, Entries, str, int, list, dict, none, item}
use Rattle.bencode_walk.specs.Has.{Has}
use Rattle.torrent_blocks.specs.Rules.{PieceLength, sum}
use Rattle.torrent_metainfo.specs.Keys.{announce_key, info_key, files_key, length_key, name_key, path_key, piece_length_key, pieces_key}

-- a name or path element: not empty, not ".", not "..", without "/" and without a zero byte
pub record GoodName (bs : List ℕ) : Type 0 where
  pub not-empty : bs ≡ [] → ⊥
  pub not-dot : bs ≡ 46 ∷ [] → ⊥
  pub not-dots : bs ≡ 46 ∷ 46 ∷ [] → ⊥
  pub no_slash : In 47 bs → ⊥
  pub no_zero : In 0 bs → ⊥

-- the least number q of pieces of m bytes that hold n bytes: n divided by m, rounded up
pub record RoundedUp (n m q : ℕ) : Type 0 where
  pub enough : n ≤ q * m
  pub least : (k : ℕ) → n ≤ k * m → q ≤ k

-- a file: its length and its path
pub record OneFile : Type 0 where
  pub size : ℕ
  pub path : List (List ℕ)

-- one file of that length, or many
pub data TorrentFiles : Type 0 where
  single : ℕ → TorrentFiles
  many : List OneFile → TorrentFiles

-- what a torrent says; info is its dictionary, and count the number of its pieces
pub record TorrentSays : Type 0 where
  pub announce : List ℕ
  pub info : Entries
  pub name : List ℕ
  pub piece-length : ℕ
  pub pieces : List ℕ
  pub count : ℕ
  pub files : TorrentFiles

-- the lengths of its files
unfoldable pub sizes_of : List OneFile → List ℕ
sizes_of [] = []
sizes_of (f ∷ fs) = f.size ∷ sizes_of fs

abbrev pub lengths_in : TorrentFiles → List ℕ
lengths_in (single n) = n ∷ []
lengths_in (many fs) = sizes_of fs

-- strings as the items of a list
unfoldable pub string_items : List (List ℕ) → Items
string_items [] = none
string_items (bs ∷ l) = item (str bs) (string_items l)

-- a dictionary has a good name
pub record HasName (es : Entries) (bs : List ℕ) : Type 0 where
  pub has : Has es name_key (str bs)
  pub good : GoodName bs

-- a piece length: a power of two, 2^14 to 2^24
pub record HasPieceLength (es : Entries) (n : ℕ) : Type 0 where
  pub has : Has es piece_length_key (int (pos n))
  pub power : PieceLength n

-- a file length: 0 to 274,877,906,944
pub record HasLength (es : Entries) (n : ℕ) : Type 0 where
  pub has : Has es length_key (int (pos n))
  pub small : n ≤ longest_file

-- a path: not empty, and each element a good one
pub record HasPath (es : Entries) (l : List (List ℕ)) : Type 0 where
  pub has : Has es path_key (list (string_items l))
  pub some : l ≡ [] → ⊥
  pub good : (bs : List ℕ) → In bs l → GoodName bs

-- a dictionary is that file
pub record IsFile (es : Entries) (f : OneFile) : Type 0 where
  pub has-length : HasLength es f.size
  pub has-path : HasPath es f.path

-- the items of a list are those files
pub data AreFiles : Items → List OneFile → Type 0 where
  no_more : AreFiles none []
  one_more : (es : Entries) (vs : Items) (f : OneFile) (fs : List OneFile) → IsFile es f → AreFiles vs fs → AreFiles (item (dict es) vs) (f ∷ fs)

-- exactly one of length and files
pub data HasFiles (es : Entries) : TorrentFiles → Type 0 where
  by_length : (n : ℕ) → HasLength es n → ((v : Value) → Has es files_key v → ⊥) → HasFiles es (single n)
  by-files : (vs : Items) (fs : List OneFile) → Has es files_key (list vs) → AreFiles vs fs → ((v : Value) → Has es length_key v → ⊥) → HasFiles es (many fs)

-- how many files, the total, how many pieces, and the length of pieces
pub record GoodSizes (ns : List ℕ) (piece-length : ℕ) (pieces : List ℕ) (count : ℕ) : Type 0 where
  pub some-files : 1 ≤ length ns
  pub few-files : length ns ≤ most_files
  pub some_bytes : 1 ≤ sum ns
  pub counted : RoundedUp (sum ns) piece-length count
  pub few-pieces : count ≤ most_pieces
  pub hashes : length pieces ≡ 20 * count

-- info's dictionary says so
pub record IsInfo (es : Entries) (t : TorrentSays) : Type 0 where
  pub has-name : HasName es t.name
  pub has-piece-length : HasPieceLength es t.piece-length
  pub has-pieces : Has es pieces_key (str t.pieces)
  pub has-files : HasFiles es t.files
  pub sized : GoodSizes (lengths_in t.files) t.piece-length t.pieces t.count

-- a value is a torrent that says so
pub data IsTorrent : Value → TorrentSays → Type 0 where
  is-torrent : (es : Entries) (t : TorrentSays) → Has es announce_key (str t.announce) → Has es info_key (dict t.info) → IsInfo t.info t → IsTorrent (dict es) t
