-- The info hash: its answer is determined, a refusal leaves the lent bytes, and a torrent's is the digest of info's bytes. Assumes nothing.
use Rattle.std.proofs.Common.{Err, Ok, Result, ◌≡◌, refl, sym, ap, ◌∙◌, List, ℕ, ◌≤◌, arith, length, length-take, length-drop, le-leb}
use Rattle.refusal.specs.declared.Refusal.{Refusal}
use Rattle.refusal.specs.Paper.{paper, Outcome, taken, refused}
use Rattle.refusal.specs.Limits.{most_text, longest_piece}
use Rattle.refusal.specs.Parts.{bytes_at}
use Rattle.refusal.specs.declared.Part.{Part}
use Rattle.hash_sha1.specs.Sha1.{sha1}
use Rattle.hash_sha1.specs.Digest.{Left, left, digest_of}
use Rattle.torrent_metainfo.specs.declared.Torrent.{Torrent}
use Rattle.torrent_metainfo.specs.Reading.{read_of}
use Rattle.torrent_metainfo.specs.Hashes.{hashed_in, info_hash_of}
use Rattle.torrent_metainfo.proofs.Exact.{torrent-exact}

abbrev hashed_as : Outcome (Unit {0}) → Result (Unit {0}) Refusal
hashed_as (taken u) = (Ok tt)
hashed_as (refused n p) = Err (record { number = n; place = p })

again : (r : Result (Unit {0}) Refusal) → hashed_as (paper r) ≡ r
again (Ok tt) = refl
again (Err r) = refl

pub info_hash-determined : (s o : List ℕ) (r t : Result (Unit {0}) Refusal) (x y : List ℕ) → left (paper r) x ≡ info_hash_of s o → left (paper t) y ≡ info_hash_of s o → (r ≡ t) × (x ≡ y)
info_hash-determined s o r t x y e f = (sym (again r) ∙ ap (λ (l : Left). hashed_as l.answer) (e ∙ sym f) ∙ again t, ap (λ (l : Left). l.out) (e ∙ sym f))

-- of a text that is a torrent
module _ (s : List ℕ) (t : Torrent) (e : read_of s ≡ taken t) where
  -- a part of it is no longer than a text may be, and can be hashed
  pub part-short : (p : Part) → length (bytes_at s p) ≤ most_text
  part-short p = let f = ((torrent-exact s).only t e).1 in simp (length-take, length-drop) (omega (arith, f.short))

  pub info-short : length (bytes_at s t.info) ≤ longest_piece
  info-short = omega (arith, part-short t.info)

pub info-hash : (s o : List ℕ) (t : Torrent) → read_of s ≡ taken t → info_hash_of s o ≡ left (taken tt) (sha1 (bytes_at s t.info))
unfolding digest_of
info-hash s o t e = ap (hashed_in s o) e ∙ rw (le-leb (length (bytes_at s t.info)) longest_piece (info-short s t e))
