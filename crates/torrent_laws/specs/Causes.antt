-- Why a text is no torrent: each refusal's number and place, by the first check that fails in document 01's order. Assumes nothing: these are definitions.
-- Throughout, d is the place of a dictionary, p that of a value, and the last two arguments are the refusal's number and place.
use Rattle.std.specs.Prelude.{◌≡◌, List, ℕ, ◌+◌, ◌*◌, ◌<◌, ◌≤◌, length}
use Rattle.refusal.specs.Numbers.{kind, range, name, pieces}
use Rattle.refusal.specs.Limits.{longest_file, most_files, most_pieces}
use Rattle.bencode.specs.Value.{Value, Items, Entries, str, list, dict, none, item, encode}
use Rattle.bencode.specs.Exact.{Fine}
use Rattle.bencode_walk.specs.Lookup.{nothing, under, lookup}
use Rattle.bencode_walk.specs.Has.{Has}
use Rattle.bencode_fields.specs.Causes.{Lacks, NoString, NoNumber, UpTo}
use Rattle.torrent_blocks.specs.Rules.{PieceLength, sum}
use Rattle.torrent_metainfo.specs.Keys.{announce_key, info_key, files_key, length_key, name_key, path_key, piece_length_key, pieces_key}
use Rattle.torrent_metainfo.specs.Rules.{place_under}
use Rattle.torrent_laws.specs.Torrent.{GoodName, RoundedUp, OneFile, TorrentFiles, lengths_in, HasName, HasPieceLength, HasLength, IsFile, HasFiles}
use Rattle.torrent_laws.specs.Exact.{files_under}

-- no string, or a bad name
pub data NoName (p : ℕ) : Value → ℕ → ℕ → Type 0 where
  no_name : (v : Value) → ((bs : List ℕ) → v ≡ str bs → ⊥) → NoName p v kind p
  bad_name : (bs : List ℕ) → (GoodName bs → ⊥) → NoName p (str bs) name p

-- of the elements that stand from p on, the first that is bad
pub data NoElements : ℕ → Items → ℕ → ℕ → Type 0 where
  this : (p : ℕ) (v : Value) (vs : Items) (n q : ℕ) → NoName p v n q → NoElements p (item v vs) n q
  later : (p : ℕ) (bs : List ℕ) (vs : Items) (n q : ℕ) → GoodName bs → NoElements (p + length (encode (str bs))) vs n q → NoElements p (item (str bs) vs) n q

-- no list, an empty one, or a bad element
pub data NoPath (p : ℕ) : Value → ℕ → ℕ → Type 0 where
  no_list : (v : Value) → ((vs : Items) → v ≡ list vs → ⊥) → NoPath p v kind p
  empty-path : NoPath p (list none) name p
  bad_element : (vs : Items) (n q : ℕ) → NoElements (p + 1) vs n q → NoPath p (list vs) n q

-- no file
pub data NoFile (p : ℕ) : Value → ℕ → ℕ → Type 0 where
  no-dictionary : (v : Value) → ((es : Entries) → v ≡ dict es → ⊥) → NoFile p v kind p
  bad-length : (es : Entries) (n q : ℕ) → Lacks p (lookup (p + 1) es length_key) (NoNumber (UpTo longest_file)) n q → NoFile p (dict es) n q
  bad-path : (es : Entries) (m n q : ℕ) → HasLength es m → Lacks p (lookup (p + 1) es path_key) NoPath n q → NoFile p (dict es) n q

-- of the files that stand from p on, the first that is bad
pub data NoFiles : ℕ → Items → ℕ → ℕ → Type 0 where
  this-file : (p : ℕ) (v : Value) (vs : Items) (n q : ℕ) → NoFile p v n q → NoFiles p (item v vs) n q
  later-file : (p : ℕ) (es : Entries) (vs : Items) (f : OneFile) (n q : ℕ) → IsFile es f → NoFiles (p + length (encode (dict es))) vs n q → NoFiles p (item (dict es) vs) n q

-- the value under files: no list, or a bad file
pub data NoFileList (p : ℕ) : Value → ℕ → ℕ → Type 0 where
  no_file-list : (v : Value) → ((vs : Items) → v ≡ list vs → ⊥) → NoFileList p v kind p
  bad-file : (vs : Items) (n q : ℕ) → NoFiles (p + 1) vs n q → NoFileList p (list vs) n q

-- not exactly one of length and files, or the one that is there is wrong
pub data NoContent (d : ℕ) (es : Entries) : ℕ → ℕ → Type 0 where
  neither : lookup (d + 1) es length_key ≡ nothing → lookup (d + 1) es files_key ≡ nothing → NoContent d es kind d
  both : (p : ℕ) (v : Value) (q : ℕ) (w : Value) → lookup (d + 1) es length_key ≡ under p v → lookup (d + 1) es files_key ≡ under q w → NoContent d es kind d
  wrong-length : (p : ℕ) (v : Value) (n q : ℕ) → lookup (d + 1) es length_key ≡ under p v → lookup (d + 1) es files_key ≡ nothing → NoNumber (UpTo longest_file) p v n q → NoContent d es n q
  wrong-files : (p : ℕ) (v : Value) (n q : ℕ) → lookup (d + 1) es length_key ≡ nothing → lookup (d + 1) es files_key ≡ under p v → NoFileList p v n q → NoContent d es n q

-- how many files, the total, how many pieces, the length of pieces: files of these lengths under length or files at p, and pieces at q
pub data BadSizes (ns : List ℕ) (piece-length : ℕ) (hashes : List ℕ) (p q : ℕ) : ℕ → ℕ → Type 0 where
  file-count : (1 ≤ length ns → length ns ≤ most_files → ⊥) → BadSizes ns piece-length hashes p q range p
  no_bytes : 1 ≤ length ns → length ns ≤ most_files → sum ns ≡ 0 → BadSizes ns piece-length hashes p q range p
  many-pieces : (k : ℕ) → 1 ≤ length ns → length ns ≤ most_files → 1 ≤ sum ns → RoundedUp (sum ns) piece-length k → most_pieces < k → BadSizes ns piece-length hashes p q range p
  wrong-pieces : (k : ℕ) → 1 ≤ length ns → length ns ≤ most_files → 1 ≤ sum ns → RoundedUp (sum ns) piece-length k → k ≤ most_pieces → (length hashes ≡ 20 * k → ⊥)
      → BadSizes ns piece-length hashes p q pieces q

-- the dictionary at d is no info: each check after those before it
pub data NoInfo (d : ℕ) (es : Entries) : ℕ → ℕ → Type 0 where
  info-name : (n q : ℕ) → Lacks d (lookup (d + 1) es name_key) NoName n q → NoInfo d es n q
  info-piece-length : (bs : List ℕ) (n q : ℕ) → HasName es bs → Lacks d (lookup (d + 1) es piece_length_key) (NoNumber PieceLength) n q → NoInfo d es n q
  info-pieces : (bs : List ℕ) (m n q : ℕ) → HasName es bs → HasPieceLength es m → Lacks d (lookup (d + 1) es pieces_key) NoString n q → NoInfo d es n q
  info-content : (bs : List ℕ) (m : ℕ) (hs : List ℕ) (n q : ℕ) → HasName es bs → HasPieceLength es m → Has es pieces_key (str hs) → NoContent d es n q → NoInfo d es n q
  info-sizes : (bs : List ℕ) (m : ℕ) (hs : List ℕ) (fs : TorrentFiles) (n q : ℕ) → HasName es bs → HasPieceLength es m → Has es pieces_key (str hs) → HasFiles es fs
      → BadSizes (lengths_in fs) m hs (place_under (lookup (d + 1) es (files_under fs))) (place_under (lookup (d + 1) es pieces_key)) n q → NoInfo d es n q

pub data NoInfoAt (p : ℕ) : Value → ℕ → ℕ → Type 0 where
  no-info-dictionary : (v : Value) → ((es : Entries) → v ≡ dict es → ⊥) → NoInfoAt p v kind p
  no-info : (es : Entries) (n q : ℕ) → NoInfo p es n q → NoInfoAt p (dict es) n q

-- the value is no torrent
pub data NoTorrent : Value → ℕ → ℕ → Type 0 where
  no_top : (v : Value) → ((es : Entries) → v ≡ dict es → ⊥) → NoTorrent v kind 0
  bad-announce : (es : Entries) (n q : ℕ) → Lacks 0 (lookup 1 es announce_key) NoString n q → NoTorrent (dict es) n q
  bad-info : (es : Entries) (bs : List ℕ) (n q : ℕ) → Has es announce_key (str bs) → Lacks 0 (lookup 1 es info_key) NoInfoAt n q → NoTorrent (dict es) n q

-- the text is the encoding of a value that keeps bencode's limits and is no torrent
abbrev pub NoTorrentText : List ℕ → ℕ → ℕ → Type 0
NoTorrentText s n p = (v : Value) × Fine s v × NoTorrent v n p
