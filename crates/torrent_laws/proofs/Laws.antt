-- The laws: which texts are torrents and what is handed back, when each refusal is given, and what the info hash is of. Assumes nothing.
use mathlib.Core.Path.{◌≡◌, refl, sym, ap, ◌∙◌}
use mathlib.Core.Logic.Iff
use mathlib.Core.Logic.{◌⊎◌, inl, inr, ⊎_elim, ◌↔◌}
use mathlib.Core.List.{List}
use Prim.Native.Nat.{ℕ, ◌<◌, ◌≤◌}
use native.Mathlib.Omega.{arith}
use lib.ListN.{length}
use Rattle.refusal.specs.Paper.{Outcome, taken, refused, then}
use Rattle.refusal.specs.Numbers.{long, kind, range, name, pieces}
use Rattle.refusal.specs.Limits.{most_text}
use Rattle.refusal.specs.Parts.{bytes_at}
use Rattle.bencode.specs.Value.{Value, dict, encode}
use Rattle.bencode.specs.Decode.{decode}
use Rattle.bencode.specs.Exact.{Fine}
use Rattle.bencode.proofs.Exact.{taken_fine, fine-taken}
use Rattle.bencode_laws.proofs.Laws as bencode
use Rattle.bencode_walk.proofs.Standing.{fine-stands}
use Rattle.hash_sha1.specs.Sha1.{sha1}
use Rattle.hash_sha1.specs.Digest.{left}
use Rattle.torrent_metainfo.specs.Rules.{torrent_of}
use Rattle.torrent_metainfo.specs.Reading.{read_of, announce_in, name_in_of}
use Rattle.torrent_metainfo.specs.Hashes.{info_hash_of}
use Rattle.torrent_metainfo.specs.declared.Torrent.{Torrent}
use Rattle.torrent_metainfo.proofs.Exact as rules
use Rattle.torrent_metainfo.proofs.Hashing as hashing
use Rattle.torrent_laws.specs.Torrent.{TorrentSays, IsTorrent}
use Rattle.torrent_laws.specs.Exact.{TorrentExact}
use Rattle.torrent_laws.specs.Causes.{NoTorrentText}
use Rattle.torrent_laws.proofs.Informing.{torrent-checks}
use Rattle.torrent_laws.proofs.Numbers.{torrent-ours}

-- a text is read exactly when it is the encoding of a value that is a torrent and keeps the limits; what is handed back is that value's
pub torrent-exact : (s : List ℕ) → TorrentExact s
torrent-exact s = record {
  only = λ x e. let r = (rules.torrent-exact s).only x e in let h = (torrent-checks s r.0 (fine-stands s r.0 r.1)).only x r.2 in (r.0, h.0, r.1, h.1, h.2);
  every = λ v t f i. let h = (torrent-checks s v (fine-stands s v f)).every t i in (h.0, (rules.torrent-exact s).every v h.0 f h.1, h.2);
}

-- the info hash of a torrent is SHA-1 of info's dictionary as it is written
pub info-hash : (s o : List ℕ) (v : Value) (t : TorrentSays) → Fine s v → IsTorrent v t → info_hash_of s o ≡ left (taken tt) (sha1 (encode (dict t.info)))
info-hash s o v t f i =
    let h = (torrent-exact s).every v t f i in
    hashing.info-hash s o h.0 h.1 ∙ ap (λ (bs : List ℕ). left (taken tt) (sha1 bs)) h.2.info

-- the calls for announce and the name hand back what is said
pub announce-said : (s : List ℕ) (v : Value) (t : TorrentSays) → Fine s v → IsTorrent v t → bytes_at s (announce_in (read_of s)) ≡ t.announce
announce-said s v t f i = let h = (torrent-exact s).every v t f i in ap (λ (o : Outcome Torrent). bytes_at s (announce_in o)) h.1 ∙ h.2.announce

pub name-said : (s : List ℕ) (v : Value) (t : TorrentSays) → Fine s v → IsTorrent v t → bytes_at s (name_in_of (read_of s)) ≡ t.name
name-said s v t f i = let h = (torrent-exact s).every v t f i in ap (λ (o : Outcome Torrent). bytes_at s (name_in_of o)) h.1 ∙ h.2.name

-- ---- refusals

only-by : (s : List ℕ) (n p : ℕ) (o : Outcome Value) → decode s ≡ o → then o torrent_of ≡ refused n p → (decode s ≡ refused n p) ⊎ NoTorrentText s n p
only-by s n p (taken v) d e = let f = taken_fine s v d in inr (v, f, (torrent-checks s v (fine-stands s v f)).blames n p e)
only-by s n p (refused m q) d e = inl (d ∙ (let a : m ≡ n = cc in let b : q ≡ p = cc in rw (a, b)))

by-text : (s : List ℕ) (n p : ℕ) → NoTorrentText s n p → read_of s ≡ refused n p
by-text s n p (v, f, h) = ap (λ (o : Outcome Value). then o torrent_of) (fine-taken s v f) ∙ (torrent-checks s v (fine-stands s v f)).refuses n p h

-- a refusal is bencode's, or that of a value that is no torrent
pub refused-law : (s : List ℕ) (n p : ℕ) → read_of s ≡ refused n p ↔ ((decode s ≡ refused n p) ⊎ NoTorrentText s n p)
refused-law s n p = (λ e. only-by s n p (decode s) refl e, ⊎_elim (λ (h : decode s ≡ refused n p). ap (λ (o : Outcome Value). then o torrent_of) h) (by-text s n p))

-- its number is one of bencode's, or 10 to 13
pub none_other : (s : List ℕ) (n p : ℕ) → read_of s ≡ refused n p → bencode.Numbered n ⊎ ((10 ≤ n) × (n ≤ 13))
none_other s n p e = ⊎_elim (λ (h : decode s ≡ refused n p). inl (bencode.none_other s n p h)) (λ (h : NoTorrentText s n p). inr (torrent-ours h.0 n p h.2)) ((refused-law s n p).0 e)

-- 1 to 8 are bencode's, the others the torrent's
module _ (s : List ℕ) (n p : ℕ) where
  pub by-bencode : n ≤ 8 → read_of s ≡ refused n p ↔ (decode s ≡ refused n p)
  by-bencode l = (
    λ e. ⊎_elim (λ (h : decode s ≡ refused n p). h) (λ (h : NoTorrentText s n p). absurd (let o = torrent-ours h.0 n p h.2 in omega arith)) ((refused-law s n p).0 e),
    λ h. (refused-law s n p).1 (inl h),
  )

  by-torrent : 9 ≤ n → read_of s ≡ refused n p ↔ NoTorrentText s n p
  by-torrent l = (
    λ e. ⊎_elim (λ (h : decode s ≡ refused n p). absurd (let o = bencode.none_other s n p h in omega arith)) (λ (h : NoTorrentText s n p). h) ((refused-law s n p).0 e),
    by-text s n p,
  )

-- each number of its own exactly for its cause
module _ (s : List ℕ) (p : ℕ) where
  -- 8
  pub long-law : read_of s ≡ refused long p ↔ ((most_text < length s) × (p ≡ 0))
  long-law = Iff.trans (by-bencode s long p (omega arith)) ((bencode.long-law s p).0, λ h. (bencode.long-law s p).1 h.0 ∙ ap (λ (q : ℕ). refused long q) (sym h.1))

  -- 10
  pub kind-law : read_of s ≡ refused kind p ↔ NoTorrentText s kind p
  kind-law = by-torrent s kind p (omega arith)

  -- 11
  pub range-law : read_of s ≡ refused range p ↔ NoTorrentText s range p
  range-law = by-torrent s range p (omega arith)

  -- 12
  pub pieces-law : read_of s ≡ refused pieces p ↔ NoTorrentText s pieces p
  pieces-law = by-torrent s pieces p (omega arith)

  -- 13
  pub name-law : read_of s ≡ refused name p ↔ NoTorrentText s name p
  name-law = by-torrent s name p (omega arith)
