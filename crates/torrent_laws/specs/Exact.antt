-- What it is for the reader to be exact: it takes the torrents, and hands back what they say. Assumes nothing: these are definitions.
use Rattle.std.specs.Prelude.{◌≡◌, Bool, true, false, List, [], ◌∷◌, ℕ, ◌+◌, length, take, drop}
use Rattle.refusal.specs.Paper.{taken}
use Rattle.refusal.specs.Parts.{bytes_at}
use Rattle.bencode.specs.Value.{Value, Entries, dict, encode, encode_items}
use Rattle.bencode.specs.Exact.{Fine}
use Rattle.bencode_walk.specs.Has.{Has}
use Rattle.torrent_blocks.specs.Rules.{sum}
use Rattle.torrent_metainfo.specs.Keys.{files_key, length_key}
use Rattle.torrent_metainfo.specs.Reading.{read_of, file_at}
use Rattle.torrent_metainfo.specs.declared.File.{File}
use Rattle.torrent_metainfo.specs.declared.Content.{Content}
use Rattle.torrent_metainfo.specs.declared.Torrent.{Torrent}
use Rattle.torrent_laws.specs.Torrent.{OneFile, TorrentFiles, single, many, TorrentSays, lengths_in, string_items, IsTorrent}

abbrev pub is_single : TorrentFiles → Bool
is_single (single n) = true
is_single (many fs) = false

-- the key that info has: length or files
abbrev pub files_under : TorrentFiles → List ℕ
files_under (single n) = length_key
files_under (many fs) = files_key

-- a value stands at p of the text s
abbrev pub StandsAt : List ℕ → ℕ → Value → Type 0
StandsAt s p v = take (length (encode v)) (drop p s) ≡ encode v

-- the elements of a path stand from p on
abbrev pub PathAt : List ℕ → ℕ → List (List ℕ) → Type 0
PathAt s p l = take (length (encode_items (string_items l))) (drop p s) ≡ encode_items (string_items l)

-- at p, and then where each says that the next one stands, the reader of one file finds these files
pub data FilesAt (s : List ℕ) : ℕ → List OneFile → Type 0 where
  none_left : (p : ℕ) → FilesAt s p []
  file-at : (p : ℕ) (x : File) (f : OneFile) (fs : List OneFile) → file_at s p ≡ taken x → x.length ≡ f.size → PathAt s x.path f.path → FilesAt s x.next fs
      → FilesAt s p (f ∷ fs)

abbrev pub EachAt : List ℕ → ℕ → TorrentFiles → Type 0
EachAt s p (single n) = Unit {0}
EachAt s p (many fs) = FilesAt s p fs

-- the content that is handed back is those files; its place is where the value under length or files stands, and the first of many files one past it
pub record ShowsFiles (s : List ℕ) (info : Entries) (c : Content) (fs : TorrentFiles) : Type 0 where
  pub one : c.single ≡ is_single fs
  pub files : c.files ≡ length (lengths_in fs)
  pub total : c.total ≡ sum (lengths_in fs)
  pub place : (v : Value) × Has info (files_under fs) v × StandsAt s c.place v
  pub each : EachAt s (c.place + 1) fs

-- an answer's fields are what is said: parts of the text by their bytes, and info's as its dictionary is written
pub record ShowsTorrent (s : List ℕ) (x : Torrent) (t : TorrentSays) : Type 0 where
  pub announce : bytes_at s x.announce ≡ t.announce
  pub info : bytes_at s x.info ≡ encode (dict t.info)
  pub name : bytes_at s x.name ≡ t.name
  pub pieces : bytes_at s x.pieces ≡ t.pieces
  pub piece-length : x.piece_length ≡ t.piece-length
  pub count : x.piece_count ≡ t.count
  pub files : ShowsFiles s t.info x.content t.files

-- taken exactly when the text is the encoding of a value that is a torrent and keeps the limits, with that value's fields
pub record TorrentExact (s : List ℕ) : Type 0 where
  pub only : (x : Torrent) → read_of s ≡ taken x → (v : Value) × (t : TorrentSays) × Fine s v × IsTorrent v t × ShowsTorrent s x t
  pub every : (v : Value) (t : TorrentSays) → Fine s v → IsTorrent v t → (x : Torrent) × (read_of s ≡ taken x) × ShowsTorrent s x t
