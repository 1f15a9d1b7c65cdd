-- Every call that reads a text as bencode first refuses by 1 to 7 as bencode does. Assumes nothing.
use mathlib.Core.Path.{◌≡◌, ◌∙◌}
use mathlib.Core.Logic.Iff
use mathlib.Core.Logic.{◌↔◌}
use mathlib.Core.List.{List}
use Prim.Native.Nat.{ℕ, ◌≤◌, ◌<◌}
use native.Mathlib.Omega.{arith}
use lib.ListN.{length}
use Rattle.refusal.specs.Paper.{refused, map, then}
use Rattle.refusal.specs.Limits.{most_text}
use Rattle.bencode.specs.Decode.{decode}
use Rattle.bencode.specs.Answers.{check_of}
use Rattle.bencode_laws.proofs.Laws as bencode
use Rattle.tracker.specs.Reply.{reply_of, counted, nth_of}
use Rattle.torrent_metainfo.specs.Reading.{read_of}
use Rattle.torrent_metainfo.specs.Hashes.{info_hash_of}
use Rattle.torrent_contents.specs.Files.{entry_of}
use Rattle.torrent_contents.specs.Pieces.{hash_of, check_of as piece_of}
use Rattle.torrent_laws.proofs.Laws.{by-bencode}
use Rattle.torrent_metainfo.specs.declared.Torrent.{Torrent}
use Rattle.bencode.specs.Value.{count}
use Rattle.demands_laws.proofs.Refusals.{first_of, at_place, map-refused}
use Rattle.demands_laws.specs.Causes.{Unchecked, no-such-piece, long-piece, wrong-length}
use Rattle.demands_laws.proofs.Replies.{reply-bencode, peer-alike}
use Rattle.demands_laws.proofs.Contents.{hash-alike, file-alike, info_hash-alike, check-exactly}

unchecked-past : (t : Torrent) (n : ℕ) (m : List ℕ) (k : ℕ) → Unchecked t n m k → 8 ≤ k
unchecked-past t n m k (no-such-piece l) = omega arith
unchecked-past t n m k (long-piece l h) = omega arith
unchecked-past t n m k (wrong-length l h g) = omega arith

module _ (s : List ℕ) (k p : ℕ) (l : k ≤ 7) where
  pub check : check_of s ≡ refused k p ↔ decode s ≡ refused k p
  check = map-refused count (decode s) k p

  pub torrent : read_of s ≡ refused k p ↔ decode s ≡ refused k p
  torrent = by-bencode s k p (omega arith)

  pub reply : map counted (reply_of s) ≡ refused k p ↔ decode s ≡ refused k p
  reply = reply-bencode s k p (omega arith)

pub info-hash : (o s : List ℕ) (k p : ℕ) → k ≤ 7 → (info_hash_of s o).answer ≡ refused k p ↔ decode s ≡ refused k p
info-hash o s k p l = Iff.trans (info_hash-alike s o k p) (torrent s k p l)

pub file : (n : ℕ) (s : List ℕ) (k p : ℕ) → k ≤ 7 → entry_of s n ≡ refused k p ↔ decode s ≡ refused k p
file n s k p l = Iff.trans (file-alike s n k p (λ e. omega arith)) (torrent s k p l)

pub piece-hash : (n : ℕ) (s : List ℕ) (k p : ℕ) → k ≤ 7 → hash_of s n ≡ refused k p ↔ decode s ≡ refused k p
piece-hash n s k p l = Iff.trans (hash-alike s n k p (λ e. omega arith)) (torrent s k p l)

pub piece-check : (n : ℕ) (m s : List ℕ) (k p : ℕ) → k ≤ 7 → piece_of s n m ≡ refused k p ↔ decode s ≡ refused k p
piece-check n m s k p l = Iff.trans (first_of (check-exactly s n m k p) (λ h. let g = unchecked-past h.0 n m k h.2 in omega arith)) (torrent s k p l)

pub peer : (n : ℕ) (s : List ℕ) (k p : ℕ) → k ≤ 7 → then (reply_of s) (nth_of n) ≡ refused k p ↔ decode s ≡ refused k p
peer n s k p l = Iff.trans (peer-alike s n k p (λ e. omega arith)) (reply s k p l)

-- 8 of a text, both ways at once
pub decode-8 : (s : List ℕ) (p : ℕ) → decode s ≡ refused 8 p ↔ ((most_text < length s) × (p ≡ 0))
decode-8 s p = ((bencode.long-law s p).0, λ h. (bencode.long-law s p).1 h.0 ∙ at_place h.1)
