-- What the writers' contracts say: what decides a refusal, that it keeps everything, and that what was written reads back. Assumes nothing.
use Rattle.std.specs.Prelude.{Result}
use Rattle.refusal.specs.declared.Refusal.{Refusal}
use mathlib.Core.Path.{◌≡◌, refl, sym, ap, ◌∙◌}
use mathlib.Core.Logic.{inl, inr}
use mathlib.Core.Bool.{true}
use mathlib.Core.List.{List, [], ◌∷◌, ◌++◌}
use Prim.Native.Nat.{ℕ, suc, ◌+◌, ◌≤◌, ◌<◌}
use native.Mathlib.Omega.{arith}
use borrow.Author.Tests.{ltb-true, ltb-false, leb-true, leb-false, lt-ltb, le-ltb, le-leb, lt-leb}
use lib.Dec.{leb, ltb}
use lib.ListN.{length, get_or, drop, length-append, take-append-drop}
use lib.Seq.{drop-append_seam}
use Rattle.refusal.specs.Limits.{longest_frame}
use Rattle.refusal.specs.Paper.{paper, Outcome, taken, refused}
use Rattle.refusal.specs.Parts.{bytes_at}
use Rattle.refusal.specs.declared.Part.{Part}
use Rattle.refusal.proofs.Bytes.{length-bytes_of}
use Rattle.refusal.proofs.Cases.{by-test}
use Rattle.bencode_writer.specs.Put.{Left, left, put_of}
use Rattle.bencode_writer.proofs.Laws.{paper-apart, reads-back}
use Rattle.peer_wire.specs.Message.{Message, keepalive, word, body, framed, encode, FieldsFit}
use Rattle.peer_wire.specs.Frames.{allowed, Lengths, found, read_of, meant, write_of}
use Rattle.peer_wire.specs.Handshake.{handshake, zeros, hello, shake_of}
use Rattle.peer_wire.specs.Causes.{WriteCause}
use Rattle.peer_wire.proofs.Steps.{most-most, allowed-true, allowed-false, allowed-if, allowed-not}
use Rattle.peer_wire.proofs.Exact.{Reads}
use Rattle.peer_wire.proofs.Exact.{reads-back as message-reads-back}
use Rattle.peer_wire.proofs.Shaking.{free_part, peer_part, handshake-reads-back}

-- ---- every writer

-- two outcomes that a writer's contract permits for one entry are the same, answer and output
pub put-determined : (l : Left) (r s : Result ℕ Refusal) {out out' : List ℕ} → left (paper r) out ≡ l → left (paper s) out' ≡ l → (r ≡ s) × (out ≡ out')
put-determined l r s e f = (paper-apart r s (ap (λ (x : Left). x.answer) (e ∙ sym f)), ap (λ (x : Left). x.out) (e ∙ sym f))

-- what was put at the start stands there, before the rest of the output as it was
pub put-at-start : (w o : List ℕ) (r : Result ℕ Refusal) {out : List ℕ} {q : ℕ} → left (paper r) out ≡ put_of w 0 o → paper r ≡ taken q → (q ≡ length w) × (out ≡ w ++ drop q o)
put-at-start w o r {out} {q} e t =
    let b = reads-back w 0 o r e t in
    let z : 0 + length w ≡ length w = omega arith in
    let l : q ≡ length w = b.0.0 ∙ z in
    let k : drop (length w) out ≡ drop (length w) o = rw z at b.1.past in
    (l, rw l (sym (take-append-drop (length w) out) ∙ ap (λ (x : List ℕ). x ++ drop (length w) out) b.1.there ∙ ap (λ (x : List ℕ). w ++ x) k))

-- ---- frames

module _ (rest o : List ℕ) where
  length-framed : length (framed rest) ≡ 4 + length rest
  length-framed = omega (arith, length-append (word (length rest)) rest, length-bytes_of 4 (length rest))

  -- the answer's cause, and that a refusal keeps everything
  write-decided : WriteCause rest o (write_of rest o).answer
  unfolding write_of put_of
  write-decided =
      by-test (λ (l : Left). WriteCause rest o l.answer) (ltb longest_frame (length rest)) (λ e. (inl (refl, ltb-true longest_frame (length rest) e), refl))
      (λ e. by-test (λ (l : Left). WriteCause rest o l.answer) (allowed (get_or rest 0 0) (length rest))
      (λ f. let a = allowed-true (get_or rest 0 0) (length rest) f in
      by-test (λ (l : Left). WriteCause rest o l.answer) (leb (0 + length (framed rest)) (length o))
      (λ g. (a, omega (arith, leb-true (0 + length (framed rest)) (length o) g, length-framed), omega (arith, length-framed)))
      (λ g. (inr (inr (refl, a, omega (arith, leb-false (0 + length (framed rest)) (length o) g, length-framed))), refl)))
      (λ f. (inr (inl (refl, ltb-false longest_frame (length rest) e, allowed-false (get_or rest 0 0) (length rest) f)), refl)))

  write-decides : (a : Outcome ℕ) → WriteCause rest o a → (write_of rest o).answer ≡ a
  unfolding write_of put_of
  write-decides (taken n) (a, h, e) =
      let l : length rest ≤ longest_frame = omega (arith, most-most (get_or rest 0 0)) in
      let g : 0 + length (framed rest) ≤ length o = omega (arith, length-framed) in
      let z : 0 + length (framed rest) ≡ n = omega (arith, length-framed) in
      rw (le-ltb longest_frame (length rest) l, allowed-if (get_or rest 0 0) (length rest) a, le-leb (0 + length (framed rest)) (length o) g, z)
  write-decides (refused n p) (inl (e, h), z) = rw (lt-ltb longest_frame (length rest) h, e, z)
  write-decides (refused n p) (inr (inl (e, h, a)), z) = rw (le-ltb longest_frame (length rest) h, allowed-not (get_or rest 0 0) (length rest) a, e, z)
  write-decides (refused n p) (inr (inr (e, a, h)), z) =
      let l : length rest ≤ longest_frame = omega (arith, most-most (get_or rest 0 0)) in
      let g : length o < 0 + length (framed rest) = omega (arith, length-framed) in
      rw (le-ltb longest_frame (length rest) l, allowed-if (get_or rest 0 0) (length rest) a, lt-leb (0 + length (framed rest)) (length o) g, e, z)

  -- a writer's answer is given exactly for its cause
  pub write-exactly : (a : Outcome ℕ) → ((write_of rest o).answer ≡ a → WriteCause rest o a) × (WriteCause rest o a → (write_of rest o).answer ≡ a)
  write-exactly a = (λ e. rw e at write-decided, write-decides a)

  pub write-keeps : (n p : ℕ) → (write_of rest o).answer ≡ refused n p → (write_of rest o).out ≡ o
  unfolding write_of put_of
  write-keeps n p =
      by-test (λ (l : Left). l.answer ≡ refused n p → l.out ≡ o) (ltb longest_frame (length rest)) (λ e k. refl)
      (λ e. by-test (λ (l : Left). l.answer ≡ refused n p → l.out ≡ o) (allowed (get_or rest 0 0) (length rest))
      (λ f. by-test (λ (l : Left). l.answer ≡ refused n p → l.out ≡ o) (leb (0 + length (framed rest)) (length o))
      (λ g k. let z : ◌≡◌ {A = ℕ} 0 1 = cc in absurd (omega arith))
      (λ g k. refl))
      (λ f k. refl))

  -- for any outcome that the contract permits
  module _ (r : Result ℕ Refusal) {out : List ℕ} (e : left (paper r) out ≡ write_of rest o) where
    pub refusal-keeps : {n p : ℕ} → paper r ≡ refused n p → WriteCause rest o (refused n p) × (out ≡ o)
    refusal-keeps {n} {p} k =
        let a : (write_of rest o).answer ≡ refused n p = ap (λ (l : Left). l.answer) (sym e) ∙ k in
        (rw a at write-decided, ap (λ (l : Left). l.out) e ∙ write-keeps n p a)

    pub write-taken : {q : ℕ} → paper r ≡ taken q → Lengths rest × (left (paper r) out ≡ put_of (framed rest) 0 o)
    unfolding write_of
    write-taken {q} k =
        by-test (λ (l : Left). left (paper r) out ≡ l → Lengths rest × (left (paper r) out ≡ put_of (framed rest) 0 o)) (ltb longest_frame (length rest))
        (λ t f. let x = ap (λ (l : Left). l.answer) f in let z : ◌≡◌ {A = ℕ} 0 1 = cc in absurd (omega arith))
        (λ t. by-test (λ (l : Left). left (paper r) out ≡ l → Lengths rest × (left (paper r) out ≡ put_of (framed rest) 0 o)) (allowed (get_or rest 0 0) (length rest))
        (λ u f. (lengths rest u, f))
        (λ u f. let x = ap (λ (l : Left). l.answer) f in let z : ◌≡◌ {A = ℕ} 0 1 = cc in absurd (omega arith))) e
      where
        lengths : (b : List ℕ) → allowed (get_or b 0 0) (length b) ≡ true → Lengths b
        lengths [] u = tt
        lengths (id ∷ p) u = allowed-true id (suc (length p)) u

-- what a reader makes of output that begins with the frame of m: m, and where the output goes on
pub record ReadBack (m : Message (List ℕ)) (out : List ℕ) (q : ℕ) : Type 0 where
  pub at : Message Part
  pub answer : read_of out ≡ taken (found at q)
  pub means : meant out at ≡ m

read_back : (m : Message (List ℕ)) (rest out : List ℕ) (q : ℕ) → q ≡ length (encode m) → out ≡ encode m ++ rest → Reads (encode m) rest m → ReadBack m out q
read_back m rest out q l e b = rw (e, l) (record { at = b.at; answer = b.answer; means = b.means })

-- a message that was written reads back, and the output past it is as it was
pub frame-reads-back : (m : Message (List ℕ)) → FieldsFit m → (o : List ℕ) (r : Result ℕ Refusal) {out : List ℕ} {q : ℕ} → left (paper r) out ≡ write_of (body m) o → paper r ≡ taken q
    → (out ≡ encode m ++ drop q o) × ReadBack m out q
frame-reads-back m f o r {out} {q} e t =
    let w = write-taken (body m) o r e t in
    let s = put-at-start (encode m) o r w.1 t in
    (s.1, read_back m (drop q o) out q s.0 s.1 (message-reads-back m (f, w.0) (drop q o)))

pub keepalive-reads-back : (o : List ℕ) (r : Result ℕ Refusal) {out : List ℕ} {q : ℕ} → left (paper r) out ≡ put_of (encode keepalive) 0 o → paper r ≡ taken q
    → (out ≡ encode keepalive ++ drop q o) × ReadBack keepalive out q
keepalive-reads-back o r {out} {q} e t =
    let s = put-at-start (encode keepalive) o r e t in
    (s.1, read_back keepalive (drop q o) out q s.0 s.1 (message-reads-back keepalive (tt, tt) (drop q o)))

-- ---- the handshake

-- a handshake that was written reads back: its free bytes are 0, and the peer id is the one that was given
pub written-handshake-reads-back : (info peer : List ℕ) → length info ≡ 20 → length peer ≡ 20 → (o : List ℕ) (r : Result ℕ Refusal) {out : List ℕ} {q : ℕ}
    → left (paper r) out ≡ put_of (handshake zeros info peer) 0 o → paper r ≡ taken q
    → (shake_of info out ≡ taken (hello free_part peer_part q)) × (bytes_at out free_part ≡ zeros) × (bytes_at out peer_part ≡ peer) × (drop q out ≡ drop q o)
written-handshake-reads-back info peer i p o r {out} {q} e t =
    let s = put-at-start (handshake zeros info peer) o r e t in
    let b = handshake-reads-back zeros info peer (drop q o) refl i p in
    (rw (s.1, s.0) (rw s.0 at b.0), rw s.1 b.1, rw s.1 b.2, rw (s.1, s.0) (drop-append_seam (handshake zeros info peer) (drop (length (handshake zeros info peer)) o)))
