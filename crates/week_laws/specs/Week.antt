-- What a week's file is, and what is told of it: without places and without an order of checks. Assumes nothing: these are definitions.
use Rattle.std.specs.Prelude.{◌≡◌, List, [], ◌∷◌, ℕ, ◌+◌, ◌≤◌, length}
use mathlib.Core.List.{Memᴰ as In}
use Rattle.refusal.specs.Limits.{most_text, most_packages}
use Rattle.bencode.specs.Value.{Value, dict, encode}
use Rattle.bencode.specs.Exact.{Fine}
use Rattle.hash_sha1.specs.Sha1.{sha1}
use Rattle.torrent_blocks.specs.Rules.{sum}
use Rattle.torrent_laws.specs.Torrent.{TorrentSays, lengths_in, IsTorrent}
use Rattle.week.specs.File.{Package, bodies_of, table_bytes, file_of}
use Rattle.week.specs.Rules.{hash_place}
use Rattle.week.specs.declared.Entry.{Entry}
use Rattle.week.specs.declared.Week.{Week}

-- a package: its body is the encoding of a torrent that says t, and its hash is that torrent's info hash
pub record IsPackage (p : Package) (t : TorrentSays) : Type 0 where
  pub value : Value
  pub encodes : Fine p.body value
  pub torrent : IsTorrent value t
  pub hashed : p.hash ≡ sha1 (encode (dict t.info))

pub data ArePackages : List Package → List TorrentSays → Type 0 where
  no_more : ArePackages [] []
  one_more : (p : Package) (ps : List Package) (t : TorrentSays) (ts : List TorrentSays) → IsPackage p t → ArePackages ps ts → ArePackages (p ∷ ps) (t ∷ ts)

-- no package has a hash that was given before: by one of those before it, or among `seen`
pub data AllNew : List (List ℕ) → List Package → Type 0 where
  none_left : (seen : List (List ℕ)) → AllNew seen []
  new-one : (seen : List (List ℕ)) (p : Package) (ps : List Package) → (In p.hash seen → ⊥) → AllNew (p.hash ∷ seen) ps → AllNew seen (p ∷ ps)

-- a week's file: 1 to 256 packages with different hashes, as its text, of at most 1,048,576 bytes, has them
pub record IsWeek (s : List ℕ) (ps : List Package) (ts : List TorrentSays) : Type 0 where
  pub some : 1 ≤ length ps
  pub few : length ps ≤ most_packages
  pub packages : ArePackages ps ts
  pub different : AllNew [] ps
  pub short : length s ≤ most_text
  pub text : s ≡ file_of ps

-- how many files a torrent has, and how many bytes those have
abbrev pub files_in : TorrentSays → ℕ
files_in t = length (lengths_in t.files)

abbrev pub total_in : TorrentSays → ℕ
total_in t = sum (lengths_in t.files)

-- the sums over all
unfoldable pub all_files : List TorrentSays → ℕ
all_files [] = 0
all_files (t ∷ ts) = files_in t + all_files ts

unfoldable pub all_bytes : List TorrentSays → ℕ
all_bytes [] = 0
all_bytes (t ∷ ts) = total_in t + all_bytes ts

-- the answer on a file of packages with these torrents
abbrev pub answer_of : List TorrentSays → Week
answer_of ts = record { count = length ts; files = all_files ts; total = all_bytes ts }

-- what is told of package p with its torrent t, which comes after the packages qs, of n in all
abbrev pub entry_of : ℕ → List Package → Package → TorrentSays → Entry
entry_of n qs p t = record {
  hash = record { from = hash_place (length qs); len = 20 };
  body = record { from = table_bytes n + length (bodies_of qs); len = length p.body };
  files = files_in t;
  total = total_in t;
}

-- the lengths of the bodies
unfoldable pub lengths_of : List Package → List ℕ
lengths_of [] = []
lengths_of (p ∷ ps) = length p.body ∷ lengths_of ps
