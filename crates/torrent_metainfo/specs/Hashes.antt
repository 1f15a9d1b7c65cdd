-- The info hash. Assumes nothing: these are definitions.
use Rattle.std.specs.Prelude.{List, ℕ}
use Rattle.refusal.specs.Paper.{Outcome, taken, refused}
use Rattle.refusal.specs.Parts.{bytes_at}
use Rattle.hash_sha1.specs.Digest.{Left, left, digest_of}
use Rattle.torrent_metainfo.specs.declared.Torrent.{Torrent}
use Rattle.torrent_metainfo.specs.Reading.{read_of}

-- the digest of info's bytes as they stand, written over o; or the torrent's refusal, and o as it was
abbrev pub hashed_in : List ℕ → List ℕ → Outcome Torrent → Left
hashed_in s o (taken t) = digest_of (bytes_at s t.info) o
hashed_in s o (refused n p) = left (refused n p) o

abbrev pub info_hash_of : List ℕ → List ℕ → Left
info_hash_of s o = hashed_in s o (read_of s)
