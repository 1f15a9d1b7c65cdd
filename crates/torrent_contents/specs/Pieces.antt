-- The hash of a piece, and its check. Assumes nothing: these are definitions.
use Rattle.std.specs.Prelude.{◌≡◌, Bool, true, false, cond, List, ℕ, ◌+◌, ◌*◌, ◌<◌, ltb, leb, eqb, length}
use Rattle.refusal.specs.Paper.{Outcome, taken, refused, then}
use Rattle.refusal.specs.Numbers.{long, beyond, outside}
use Rattle.refusal.specs.Limits.{longest_piece}
use Rattle.refusal.specs.Parts.{bytes_at}
use Rattle.refusal.specs.declared.Part.{Part}
use Rattle.hash_sha1.specs.Sha1.{sha1}
use Rattle.hash_sha1.specs.Digest.{same}
pub use Rattle.torrent_blocks.specs.Numberings.{piece_bytes_of}
use Rattle.torrent_metainfo.specs.Reading.{read_of}
use Rattle.torrent_metainfo.specs.declared.Torrent.{Torrent}

-- the 20 bytes of piece n in pieces
abbrev pub hash_part : ℕ → Part → Part
hash_part n x = record { from = x.from + 20 * n; len = 20 }

abbrev pub hash_in : ℕ → Torrent → Outcome Part
hash_in n t = cond (ltb n t.piece_count) (taken (hash_part n t.pieces)) (refused beyond 0)

-- the torrent's refusals, then 31
abbrev pub hash_of : List ℕ → ℕ → Outcome Part
hash_of s n = then (read_of s) (hash_in n)

-- whether the digest of m is the hash of piece n: 8 for a long m, 34 for one of another length
abbrev pub check_against : List ℕ → ℕ → List ℕ → Torrent → Part → Outcome Bool
check_against s n m t x =
    cond (leb (length m) longest_piece)
    (cond (eqb (length m) (piece_bytes_of t.content.total t.piece_length n)) (taken (same (sha1 m) (bytes_at s x))) (refused outside 0))
    (refused long 0)

abbrev pub check_in : List ℕ → ℕ → List ℕ → Torrent → Outcome Bool
check_in s n m t = then (hash_in n t) (check_against s n m t)

-- the torrent's refusals, then 31, 8, 34
abbrev pub check_of : List ℕ → ℕ → List ℕ → Outcome Bool
check_of s n m = then (read_of s) (check_in s n m)

-- the answer is yes exactly when m's digest is the hash of piece n, of which m has the length
pub record PieceCheck (s : List ℕ) (n : ℕ) (m : List ℕ) (o : Outcome Bool) : Type 0 where
  pub only : o ≡ taken true → (t : Torrent) × (read_of s ≡ taken t) × (n < t.piece_count) × (length m ≡ piece_bytes_of t.content.total t.piece_length n) × (sha1 m ≡ bytes_at s (hash_part n t.pieces))
  pub every : (t : Torrent) → read_of s ≡ taken t → n < t.piece_count → length m ≡ piece_bytes_of t.content.total t.piece_length n → sha1 m ≡ bytes_at s (hash_part n t.pieces) → o ≡ taken true
  pub other : (t : Torrent) → read_of s ≡ taken t → n < t.piece_count → length m ≡ piece_bytes_of t.content.total t.piece_length n → (sha1 m ≡ bytes_at s (hash_part n t.pieces) → ⊥) → o ≡ taken false
