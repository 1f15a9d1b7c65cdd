-- Two outcomes that a contract permits for one entry are the same; a refusal is 8 at 0, exactly of a message that is too long, and leaves the lent bytes. Assumes nothing.
use Rattle.std.proofs.Common.{Ok, Result, ◌≡◌, refl, sym, ap, ◌∙◌, Bool, true, List, ℕ, ◌≤◌, ◌<◌, arith, length}
use Rattle.refusal.specs.declared.Refusal.{Refusal}
use Rattle.refusal.specs.BigEndian.{bytes_of}
use Rattle.refusal.specs.Paper.{paper, taken, refused}
use Rattle.refusal.specs.Numbers.{long}
use Rattle.refusal.specs.Limits.{longest_piece}
use Rattle.refusal.proofs.Outcomes.{paper-determined}
use Rattle.hash_digest.proofs.Determined.{determined}
use Rattle.hash_sha1.specs.Sha1.{sha1}
use Rattle.hash_sha1.specs.Digest.{Left, left, digest_of, same, agreement_of}
use Rattle.hash_sha1.specs.Parts.{begun, add_of, finish_of}
use Rattle.hash_sha1.specs.declared.stream.Stream.{Stream}
use Rattle.hash_sha1.proofs.Parts.{digest-whole, digest-over, finish-whole, finish-over, by-limit}
use Rattle.hash_sha1.proofs.Same.{same-equal, same_refl}
use Rattle.hash_sha1.proofs.Steps.{agreement-whole, agreement-over}

-- a digest has 20 bytes
pub digest-length : (m : List ℕ) → length (sha1 m) ≡ 20
unfolding sha1 bytes_of
digest-length m = refl

-- ---- each contract permits one outcome

-- what both writers of a digest leave: answer and lent bytes
same_left : {x : Left} (r t : Result (Unit {0}) Refusal) {out out' : List ℕ} → left (paper r) out ≡ x → left (paper t) out' ≡ x → (r ≡ t) × (out ≡ out')
same_left {x} r t e f =
    (paper-determined x.answer r t (ap (λ (y : Left). y.answer) e) (ap (λ (y : Left). y.answer) f), ap (λ (y : Left). y.out) (e ∙ sym f))

pub digest-determined : (m o : List ℕ) (r t : Result (Unit {0}) Refusal) {out out' : List ℕ} → left (paper r) out ≡ digest_of m o → left (paper t) out' ≡ digest_of m o
    → (r ≡ t) × (out ≡ out')
digest-determined m o r t e f = same_left r t e f

pub finish-determined : (s : Stream) (o : List ℕ) (r t : Result (Unit {0}) Refusal) {out out' : List ℕ} → left (paper r) out ≡ finish_of s o → left (paper t) out' ≡ finish_of s o
    → (r ≡ t) × (out ≡ out')
finish-determined s o r t e f = same_left r t e f

pub start-determined : (r t : Stream) → r ≡ begun → t ≡ begun → r ≡ t
start-determined r t e f = determined r t e f

pub add-determined : (s : Stream) (part : List ℕ) (r t : Stream) → r ≡ add_of s part → t ≡ add_of s part → r ≡ t
add-determined s part r t e f = determined r t e f

pub agrees-determined : (m expected : List ℕ) (r t : Result Bool Refusal) → paper r ≡ agreement_of m expected → paper t ≡ agreement_of m expected → r ≡ t
agrees-determined m expected r t e f = paper-determined (agreement_of m expected) r t e f

-- ---- a refusal keeps the lent bytes

-- of an outcome that is written within the limit, and 8 at 0 with the bytes as they were past it
keeps : (size : ℕ) (d o : List ℕ) {x : Left} (r : Result (Unit {0}) Refusal) {out : List ℕ} {n p : ℕ} → left (paper r) out ≡ x → (size ≤ longest_piece → x ≡ left (taken tt) d)
    → (longest_piece < size → x ≡ left (refused long 0) o) → paper r ≡ refused n p → ((n ≡ long) × (p ≡ 0) × (longest_piece < size)) × (out ≡ o)
keeps size d o r {out} {n} {p} e whole over h =
    by-limit size
    (λ b. let v = ap (λ (y : Left). y.answer) (e ∙ whole b) in let z : ◌≡◌ {A = ℕ} 0 1 = cc in absurd (omega arith))
    (λ b. let v = ap (λ (y : Left). y.answer) (e ∙ over b) in ((cc, cc, b), ap (λ (y : Left). y.out) (e ∙ over b)))

pub digest-refusal-keeps : (m o : List ℕ) (r : Result (Unit {0}) Refusal) {out : List ℕ} {n p : ℕ} → left (paper r) out ≡ digest_of m o → paper r ≡ refused n p
    → ((n ≡ long) × (p ≡ 0) × (longest_piece < length m)) × (out ≡ o)
digest-refusal-keeps m o r e h = keeps (length m) (sha1 m) o r e (digest-whole m o) (digest-over m o) h

pub finish-refusal-keeps : (s : Stream) (o : List ℕ) (r : Result (Unit {0}) Refusal) {out : List ℕ} {n p : ℕ} → left (paper r) out ≡ finish_of s o → paper r ≡ refused n p
    → ((n ≡ long) × (p ≡ 0) × (longest_piece < s.length)) × (out ≡ o)
finish-refusal-keeps s o r e h = keeps s.length _ o r e (finish-whole s o) (finish-over s o) h

-- ---- what the answers say

-- the digest is written exactly where the message is not too long
pub digest-written : (m o : List ℕ) (r : Result (Unit {0}) Refusal) {out : List ℕ} → left (paper r) out ≡ digest_of m o → length m ≤ longest_piece → (r ≡ (Ok tt)) × (out ≡ sha1 m)
digest-written m o r e h =
    let f = e ∙ digest-whole m o h in
    (paper-determined (taken tt) r (Ok tt) (ap (λ (y : Left). y.answer) f) refl, ap (λ (y : Left). y.out) f)

-- yes exactly where the digest is the expected one
pub agrees-exactly : (m expected : List ℕ) (r : Result Bool Refusal) → paper r ≡ agreement_of m expected
    → (r ≡ (Ok true) → (length m ≤ longest_piece) × (sha1 m ≡ expected)) × (length m ≤ longest_piece → sha1 m ≡ expected → r ≡ (Ok true))
agrees-exactly m expected r e = (
  λ q.
      by-limit (length m)
      (λ h.
      let v = ap paper (sym q) ∙ e ∙ agreement-whole m expected h in
      (h, same-equal (sha1 m) expected (cc)))
      (λ h. let v = ap paper (sym q) ∙ e ∙ agreement-over m expected h in let z : ◌≡◌ {A = ℕ} 0 1 = cc in absurd (omega arith)),
  λ h q.
      paper-determined (taken true) r (Ok true) (e ∙ agreement-whole m expected h ∙ ap taken (sym (ap (same (sha1 m)) q) ∙ same_refl (sha1 m))) refl,
)
