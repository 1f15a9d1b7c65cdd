-- What the code's steps leave is what the definitions say. Assumes nothing.
use Rattle.std.proofs.Common.{Err, Ok, Result, ◌≡◌, refl, sym, ap, ◌∙◌, Bool, true, List, ◌++◌, ℕ, ◌+◌, ◌-◌, ◌*◌, ◌/◌, ◌%◌, ◌≤◌, ◌<◌, arith, le-leb, length, take, drop, length-take, length-drop, take_all}
use borrow.Author.Tests.{lt-leb}
use Rattle.refusal.specs.Paper.{paper, Outcome, taken, refused, refusal, then}
use Rattle.refusal.specs.Numbers.{long}
use Rattle.refusal.specs.Limits.{longest_piece}
use Rattle.hash_digest.specs.Message.{padding, pad, hashed, rest, filled}
use Rattle.hash_digest.proofs.Blocks.{hashed-append, part-few, part-first}
use Rattle.hash_sha1.specs.Sha1.{initial, compress, output, sha1}
use Rattle.hash_sha1.specs.Digest.{Left, left, digest_of, same, agreement_of}
use Rattle.hash_sha1.specs.Parts.{held, grown, finish_of}
use Rattle.refusal.specs.declared.Refusal.{Refusal}
use Rattle.hash_sha1.specs.declared.block.Hash.{Hash}
use Rattle.hash_sha1.specs.declared.stream.Stream.{Stream}
use Rattle.hash_sha1.proofs.Parts.{same-state, finish-whole, finish-over, digest-whole, digest-over, by-limit}

-- ---- a part

-- the bytes of a message from its last whole block on
pub onward-rest : (m : List ℕ) → take (length m - (length m - length m % 64)) (drop (length m - length m % 64) m) ≡ rest m
onward-rest m =
    let e : length m - length m % 64 ≡ 64 * (length m / 64) = omega arith in
    take_all (length m - (length m - length m % 64)) (drop (length m - length m % 64) m) (simp length-drop (omega arith)) ∙ ap (λ (i : ℕ). drop i m) e

module _ (h : Hash) (t l : List ℕ) (n : ℕ) {f : List ℕ} (e : f ≡ filled 64 (take (n % 64) t ++ l)) {r : Stream} where
  -- too few bytes for a block are kept
  pub grows-few : length l < 64 - n % 64 → r ≡ record { hash = h; tail = f; length = n + length l } → r ≡ grown (record { hash = h; tail = t; length = n }) l
  grows-few b q =
      let a : length (take (n % 64) t) ≤ n % 64 = rw length-take (omega arith) in
      let p = part-few compress h (take (n % 64) t) l (n % 64) a b in
      q ∙ same-state (sym p.0) (e ∙ ap (filled 64) (sym p.1)) refl

  -- else hashing goes on from a first block
  pub grows-first : {g : Hash} {d : List ℕ} → length t ≡ 64 → 64 - n % 64 ≤ length l → g ≡ compress h f → d ≡ take (length l - (64 - n % 64)) (drop (64 - n % 64) l)
      → r ≡ record { hash = hashed compress g d; tail = filled 64 (rest d); length = n + length l } → r ≡ grown (record { hash = h; tail = t; length = n }) l
  grows-first {g} {d} a b v w q =
      let k : length (take (n % 64) t) ≡ n % 64 = rw length-take (omega arith) in
      let c : d ≡ drop (64 - n % 64) l = w ∙ take_all (length l - (64 - n % 64)) (drop (64 - n % 64) l) (simp length-drop (omega arith)) in
      let p = part-first compress h (take (n % 64) t) l (n % 64) k (omega arith) b in
      q
      ∙ same-state
      (ap (λ (x : Hash). hashed compress x d) (v ∙ ap (compress h) e) ∙ ap (hashed compress (compress h (filled 64 (take (n % 64) t ++ l)))) c ∙ sym p.0)
      (ap (λ (x : List ℕ). filled 64 (rest x)) c ∙ ap (filled 64) (sym p.1))
      refl

-- ---- the end

pub finish-written : (s : Stream) (o : List ℕ) {h : Hash} {d : List ℕ} → s.length ≤ longest_piece → h ≡ hashed compress s.hash (held s ++ padding s.length) → d ≡ output h
    → left (taken tt) d ≡ finish_of s o
finish-written s o b p q = ap (left (taken tt)) (q ∙ ap output p) ∙ sym (finish-whole s o b)

pub finish-refused : (s : Stream) (o : List ℕ) {q : Refusal} → longest_piece < s.length → q ≡ record { number = long; place = 0 } → left (refusal q) o ≡ finish_of s o
finish-refused s o b e = ap (λ (x : Refusal). left (refusal x) o) e ∙ sym (finish-over s o b)

-- ---- a message that is all there

-- its whole blocks, and the last
pub hash-whole : (m : List ℕ) {i g r : Hash} → i ≡ initial → g ≡ hashed compress i m
    → r ≡ hashed compress g (take (length m - (length m - length m % 64)) (drop (length m - length m % 64) m) ++ padding (length m)) → r ≡ hashed compress initial (pad m)
hash-whole m {i} {g} p v q =
    q ∙ ap (λ (x : List ℕ). hashed compress g (x ++ padding (length m))) (onward-rest m)
    ∙ ap (λ (x : Hash). hashed compress x (rest m ++ padding (length m))) (v ∙ ap (λ (x : Hash). hashed compress x m) p)
    ∙ sym (hashed-append compress initial m (padding (length m)))

pub digest-made : (m o : List ℕ) {h : Hash} {d : List ℕ} → length m ≤ longest_piece → h ≡ hashed compress initial (pad m) → d ≡ output h → left (taken tt) d ≡ digest_of m o
unfolding sha1
digest-made m o b p q = ap (left (taken tt)) (q ∙ ap output p) ∙ sym (digest-whole m o b)

pub digest-refused : (m o : List ℕ) {q : Refusal} → longest_piece < length m → q ≡ record { number = long; place = 0 } → left (refusal q) o ≡ digest_of m o
digest-refused m o b e = ap (λ (x : Refusal). left (refusal x) o) e ∙ sym (digest-over m o b)

-- ---- the comparison

pub agreement-whole : (m x : List ℕ) → length m ≤ longest_piece → agreement_of m x ≡ taken (same (sha1 m) x)
unfolding agreement_of
agreement-whole m x h = rw (le-leb (length m) longest_piece h)

pub agreement-over : (m x : List ℕ) → longest_piece < length m → agreement_of m x ≡ refused long 0
unfolding agreement_of
agreement-over m x h = rw (lt-leb (length m) longest_piece h)

module _ (m x o f : List ℕ) (r : Result (Unit {0}) Refusal) (e : left (paper r) f ≡ digest_of m o) where
  pub agrees-written : {a : Outcome Bool} → r ≡ (Ok tt) → a ≡ taken (same f x) → a ≡ agreement_of m x
  agrees-written {a} w q =
      let g : left (taken tt) f ≡ digest_of m o = ap (λ (y : Result (Unit {0}) Refusal). left (paper y) f) (sym w) ∙ e in
      by-limit (length m)
      (λ h. q ∙ ap (λ (y : List ℕ). taken (same y x)) (ap (λ (y : Left). y.out) (g ∙ digest-whole m o h)) ∙ sym (agreement-whole m x h))
      (λ h. let v = ap (λ (y : Left). y.answer) (g ∙ digest-over m o h) in let z : ◌≡◌ {A = ℕ} 0 1 = cc in absurd (omega arith))

  pub agrees-refused : (q : Refusal) → r ≡ Err q → refusal q ≡ agreement_of m x
  agrees-refused q w =
      let g : left (refusal q) f ≡ digest_of m o = ap (λ (y : Result (Unit {0}) Refusal). left (paper y) f) (sym w) ∙ e in
      by-limit (length m)
      (λ h. let v = ap (λ (y : Left). y.answer) (g ∙ digest-whole m o h) in let z : ◌≡◌ {A = ℕ} 0 1 = cc in absurd (omega arith))
      (λ h. ap (λ (y : Left). then y.answer (λ u. taken true)) (g ∙ digest-over m o h) ∙ sym (agreement-over m x h))
