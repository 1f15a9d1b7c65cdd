-- What `find` comes to, by what reading the torrent and hashing its info come to. Assumes nothing.
use mathlib.Core.Path.{◌≡◌, ap}
use mathlib.Core.List.{List}
use Prim.Native.Nat.{ℕ}
use Rattle.refusal.specs.Paper.{taken, refused}
use Rattle.refusal.specs.Parts.{bytes_at}
use Rattle.hash_sha1.specs.Sha1.{sha1}
use Rattle.torrent_metainfo.specs.declared.Torrent.{Torrent}
use Rattle.torrent_metainfo.specs.Reading.{read_of}
use Rattle.sheets.specs.Rules.{sheet_of}
use Rattle.sheets.specs.Reading.{address_in, found_by, find_of}

module _ (t s : List ℕ) where
  pub found-read : (x : Torrent) → taken x ≡ read_of t → address_in x.announce (sheet_of (sha1 (bytes_at t x.info)) s) ≡ find_of t s
  unfolding find_of
  found-read x e = ap (found_by t s) e

  pub found-refused : (n p : ℕ) → refused n p ≡ read_of t → found_by t s (refused n p) ≡ find_of t s
  unfolding find_of
  found-refused n p e = ap (found_by t s) e
