-- Two answers that a contract permits for one text are the same: document 01's words tell the answers apart. Assumes nothing.
use Rattle.std.proofs.Common.{Result, ◌≡◌, List, ℕ, ◌+◌, min, length}
use Rattle.refusal.specs.declared.Refusal.{Refusal}
use Rattle.refusal.specs.Paper.{paper}
use Rattle.refusal.proofs.Outcomes.{paper-determined}
use Rattle.refusal.specs.Parts.{bytes_at}
use Rattle.refusal.specs.declared.Part.{Part}
use Rattle.torrent_metainfo.specs.declared.Torrent.{Torrent}
use Rattle.torrent_metainfo.specs.declared.File.{File}
use Rattle.bencode_walk.proofs.Determined.{bytes-determined}
use Rattle.torrent_metainfo.specs.Reading.{read_of, file_at, announce_in, name_in_of}

-- read
pub read-determined : (s : List ℕ) (r t : Result Torrent Refusal) → paper r ≡ read_of s → paper t ≡ read_of s → r ≡ t
read-determined s = paper-determined (read_of s)

-- file_at
pub file-determined : (s : List ℕ) (p : ℕ) (r t : Result File Refusal) → paper r ≡ file_at s p → paper t ≡ file_at s p → r ≡ t
file-determined s p = paper-determined (file_at s p)

-- announce and name: the bytes handed back, and where they lie, by block and offset
abbrev Lies : List ℕ → Part → ℕ → ℕ → ℕ → ℕ → Type 0
Lies s p block offset b o = (b ≡ block) × (o ≡ offset + min p.from (length s))

pub announce-determined : (s l m : List ℕ) (block offset b c o q : ℕ) → l ≡ bytes_at s (announce_in (read_of s)) → m ≡ bytes_at s (announce_in (read_of s))
    → Lies s (announce_in (read_of s)) block offset b o → Lies s (announce_in (read_of s)) block offset c q → (l ≡ m) × (b ≡ c) × (o ≡ q)
announce-determined s l m block offset b c o q = bytes-determined s l m (announce_in (read_of s)).from (announce_in (read_of s)).len block offset b c o q

pub name-determined : (s l m : List ℕ) (block offset b c o q : ℕ) → l ≡ bytes_at s (name_in_of (read_of s)) → m ≡ bytes_at s (name_in_of (read_of s))
    → Lies s (name_in_of (read_of s)) block offset b o → Lies s (name_in_of (read_of s)) block offset c q → (l ≡ m) × (b ≡ c) × (o ≡ q)
name-determined s l m block offset b c o q = bytes-determined s l m (name_in_of (read_of s)).from (name_in_of (read_of s)).len block offset b c o q
