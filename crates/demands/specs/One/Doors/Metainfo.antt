-- Demand 1 of `torrent_metainfo`: torrents, read. Assumes nothing.
use Rattle.refusal.specs.Paper.{paper}
use Rattle.refusal.specs.declared.Refusal.{Refusal}
use Rattle.torrent_metainfo.specs.declared.File.{File}
use Rattle.torrent_metainfo.specs.declared.Torrent.{Torrent}
use Rattle.std.specs.Prelude.{List, ◌≡◌, ℕ, ◌+◌, min, length, Result}
use Rattle.refusal.specs.Parts.{bytes_at}
use Rattle.hash_sha1.specs.Digest.{left}
use Rattle.torrent_metainfo.specs.Hashes.{info_hash_of}
use Rattle.torrent_metainfo.specs.Reading.{read_of, announce_in, name_in_of, file_at}
use Rattle.demands.specs.One.{Lent, now, Ref}

-- torrent_metainfo::read
abbrev pub read-ensures : (text : Lent (List ℕ)) → Result Torrent Refusal → Type 0
read-ensures text r = paper r ≡ read_of (now text.entry)

-- torrent_metainfo::announce
abbrev pub announce-ensures : (text : Lent (List ℕ)) → Ref (List ℕ) → Type 0
announce-ensures text r =
    (now r ≡ bytes_at (now text.entry) (announce_in (read_of (now text.entry))))
    × ((r.ptr.0 ≡ text.entry.ptr.0) × (r.ptr.1 ≡ text.entry.ptr.1 + min (announce_in (read_of (now text.entry))).from (length (now text.entry))))

-- torrent_metainfo::name
abbrev pub name-ensures : (text : Lent (List ℕ)) → Ref (List ℕ) → Type 0
name-ensures text r =
    (now r ≡ bytes_at (now text.entry) (name_in_of (read_of (now text.entry))))
    × ((r.ptr.0 ≡ text.entry.ptr.0) × (r.ptr.1 ≡ text.entry.ptr.1 + min (name_in_of (read_of (now text.entry))).from (length (now text.entry))))

-- torrent_metainfo::info_hash
abbrev pub info_hash-ensures : (text : Lent (List ℕ)) → Result (Unit {0}) Refusal → Lent (List ℕ) → Type 0
info_hash-ensures text r out = left (paper r) (now out.exit) ≡ info_hash_of (now text.entry) (now out.entry)

-- torrent_metainfo::file_at
abbrev pub file_at-ensures : (text : Lent (List ℕ)) (at : ℕ) → Result File Refusal → Type 0
file_at-ensures text at r = paper r ≡ file_at (now text.entry) at
