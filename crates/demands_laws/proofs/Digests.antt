-- Digests: when one is refused, and that a refusal leaves the bytes lent for it. Assumes nothing.
use Rattle.std.specs.Prelude.{Result, Err}
use Rattle.refusal.specs.declared.Refusal.{Refusal}
use mathlib.Core.Path.{◌≡◌, refl, sym, ap, ◌∙◌}
use mathlib.Core.Bool.{Bool}
use mathlib.Core.List.{List}
use Prim.Native.Nat.{ℕ, ◌<◌}
use lib.ListN.{length}
use Rattle.refusal.specs.Paper.{paper, Outcome, taken, refused}
use Rattle.refusal.specs.Parts.{bytes_at}
use Rattle.hash_sha1.specs.Digest.{Left, left, digest_of, agreement_of}
use Rattle.hash_sha1.proofs.Determined.{digest-refusal-keeps, finish-refusal-keeps}
use Rattle.torrent_metainfo.specs.Hashes.{hashed_in, info_hash_of}
use Rattle.torrent_metainfo.specs.declared.Torrent.{Torrent}
use Rattle.wardrail.specs.Said.{word_of}
use mathlib.Core.Logic.{◌↔◌}
use Rattle.refusal.specs.Limits.{longest_piece}
use Rattle.hash_sha1.specs.Parts.{finish_of}
use Rattle.hash_sha1.specs.declared.stream.Stream.{Stream}
use Rattle.hash_sha1.proofs.Steps.{agreement-whole, agreement-over}
use Rattle.hash_sha1.proofs.Parts.{digest-over, finish-over}
use Rattle.torrent_metainfo.specs.Reading.{read_of}
use Rattle.refusal.proofs.Cases.{less-or}
use Rattle.refusal.proofs.Outcomes.{not-refused, same-refusal}
use Rattle.demands_laws.proofs.Refusals.{refusal_is}

-- what is left where the answer is a refusal, as the code says it
abbrev refuses : ℕ → ℕ → Result (Unit {0}) Refusal
refuses n p = Err (record { number = n; place = p })

same_left : (l : Left) (n p : ℕ) → l.answer ≡ refused n p → left (paper (refuses n p)) l.out ≡ l
same_left l n p e = ap (λ (a : Outcome (Unit {0})). left a l.out) (sym e)

-- ---- 8, and no other number

pub digest-exactly : (m o : List ℕ) (k p : ℕ) → (digest_of m o).answer ≡ refused k p ↔ ((k ≡ 8) × (longest_piece < length m) × (p ≡ 0))
digest-exactly m o k p = (
  λ e. let h = digest-refusal-keeps m o (refuses k p) (same_left (digest_of m o) k p e) refl in (h.0.0, h.0.2, h.0.1),
  λ h. ap (λ l. l.answer) (digest-over m o h.1) ∙ refusal_is (sym h.0) (sym h.2),
)

pub finish-exactly : (s : Stream) (o : List ℕ) (k p : ℕ) → (finish_of s o).answer ≡ refused k p ↔ ((k ≡ 8) × (longest_piece < s.length) × (p ≡ 0))
finish-exactly s o k p = (
  λ e. let h = finish-refusal-keeps s o (refuses k p) (same_left (finish_of s o) k p e) refl in (h.0.0, h.0.2, h.0.1),
  λ h. ap (λ l. l.answer) (finish-over s o h.1) ∙ refusal_is (sym h.0) (sym h.2),
)

pub agreement-exactly : (m expected : List ℕ) (k p : ℕ) → agreement_of m expected ≡ refused k p ↔ ((k ≡ 8) × (longest_piece < length m) × (p ≡ 0))
agreement-exactly m expected k p = (
  λ e. less-or longest_piece (length m)
      (λ h. let z = same-refusal {A = Bool} (sym (agreement-over m expected h) ∙ e) in (sym z.0, h, sym z.1))
      (λ h. not-refused (sym (agreement-whole m expected h) ∙ e)),
  λ h. agreement-over m expected h.1 ∙ refusal_is (sym h.0) (sym h.2),
)

-- ---- what a refusal leaves

-- where the torrent is refused its digest is not written, and a digest that is refused leaves the 20 bytes
pub hash-kept : (s o : List ℕ) (x : Outcome Torrent) (r : Result (Unit {0}) Refusal) {out : List ℕ} {n p : ℕ} → left (paper r) out ≡ hashed_in s o x → paper r ≡ refused n p → out ≡ o
hash-kept s o (taken t) r e h = (digest-refusal-keeps (bytes_at s t.info) o r e h).1
hash-kept s o (refused n p) r e h = ap (λ (l : Left). l.out) e

-- a word other than 0 stands for a refusal
by_number : {A Q : Type 0} (a : Outcome A) {r : ℕ} → r ≡ word_of a → (r ≡ 0 → ⊥) → ((n p : ℕ) → a ≡ refused n p → Q) → Q
by_number (taken x) e k f = absurd (k e)
by_number (refused n p) e k f = f n p refl

-- as C is told: r is the word of the answer
module _ {r : ℕ} (k : r ≡ 0 → ⊥) where
  pub digest-kept : (m o : List ℕ) → r ≡ word_of (digest_of m o).answer → (digest_of m o).out ≡ o
  digest-kept m o e = by_number (digest_of m o).answer e k (λ n p q. (digest-refusal-keeps m o (refuses n p) (same_left (digest_of m o) n p q) refl).1)

  pub finish-kept : (s : Stream) (o : List ℕ) → r ≡ word_of (finish_of s o).answer → (finish_of s o).out ≡ o
  finish-kept s o e = by_number (finish_of s o).answer e k (λ n p q. (finish-refusal-keeps s o (refuses n p) (same_left (finish_of s o) n p q) refl).1)

  pub info_hash-kept : (s o : List ℕ) → r ≡ word_of (info_hash_of s o).answer → (info_hash_of s o).out ≡ o
  info_hash-kept s o e = by_number (info_hash_of s o).answer e k (λ n p q. hash-kept s o (read_of s) (refuses n p) (same_left (info_hash_of s o) n p q) refl)
