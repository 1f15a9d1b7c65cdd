-- A message and what follows the length of its frame: each gives the other. Assumes nothing.
use mathlib.Core.Path.{◌≡◌, refl, sym, ap, ◌∙◌}
use mathlib.Core.List.{List, [], ◌∷◌, ◌++◌}
use Prim.Native.Nat.{ℕ, suc, ◌+◌, ◌≤◌, ◌<◌}
use native.Mathlib.Omega.{arith}
use lib.ListN.{length, take, drop, length-drop, take-append-drop}
use lib.Seq.{take_all, drop-drop, length-take-le}
use Rattle.refusal.specs.BigEndian.{Bytes, bytes_of}
use Rattle.refusal.proofs.Bytes.{big_endian-bytes_of, bytes_of-big_endian}
use Rattle.refusal.proofs.Places.{below, bytes_drop, bytes_take}
use Rattle.peer_wire.specs.Message.{Message, keepalive, choke, unchoke, interested, not_interested, have, bitfield, request, piece, cancel, other, word, Word, body, FieldsFit}
use Rattle.peer_wire.specs.Frames.{Allowed, message_of, number_in}
use Rattle.peer_wire.proofs.Steps.{by-id, message-other}

-- the message of an id and a payload
abbrev pub parse : List ℕ → ℕ → Message (List ℕ)
parse p id = message_of (number_in p) (λ k. drop k p) id

-- ---- what a message is written as, it is parsed from

abbrev pub Laid : Message (List ℕ) → List ℕ → Type 0
Laid m [] = m ≡ keepalive
Laid m (id ∷ p) = parse p id ≡ m

pub laid : (m : Message (List ℕ)) → FieldsFit m → Laid m (body m)
unfolding message_of bytes_of
laid keepalive f = refl
laid choke f = refl
laid unchoke f = refl
laid interested f = refl
laid not_interested f = refl
laid (have p) f = ap have (big_endian-bytes_of 4 p f)
laid (bitfield bits) f = refl
laid (request p b l) f =
    let x = big_endian-bytes_of 4 p f.0 in
    let y = big_endian-bytes_of 4 b f.1 in
    let z = big_endian-bytes_of 4 l f.2 in
    cc
laid (piece p b block) f =
    let x = big_endian-bytes_of 4 p f.0 in
    let y = big_endian-bytes_of 4 b f.1 in
    cc
laid (cancel p b l) f =
    let x = big_endian-bytes_of 4 p f.0 in
    let y = big_endian-bytes_of 4 b f.1 in
    let z = big_endian-bytes_of 4 l f.2 in
    cc
laid (other id payload) f = message-other (number_in payload) (λ k. drop k payload) id f.0

-- ---- what a payload is parsed as is written as it

module _ (p : List ℕ) (bytes : Bytes p) where
  word_at : (k : ℕ) → k + 4 ≤ length p → word (number_in p k) ≡ take 4 (drop k p)
  word_at k h =
      let l : length (take 4 (drop k p)) ≡ 4 = length-take-le 4 (drop k p) (rw length-drop (omega arith)) in
      rw l at (bytes_of-big_endian (take 4 (drop k p)) (bytes_take 4 (drop k p) (bytes_drop k p bytes)))

  word_in : (k : ℕ) → Word (number_in p k)
  word_in k = below 4 k p bytes refl

  no_words : length p ≤ 0 → [] ≡ p
  no_words = go p
    where
      go : (q : List ℕ) → length q ≤ 0 → [] ≡ q
      go [] h = refl
      go (a ∷ q) h = absurd (omega arith)

  one_word : length p ≡ 4 → word (number_in p 0) ≡ p
  one_word h = word_at 0 (omega arith) ∙ take_all 4 p (omega arith)

  two-words : 8 ≤ length p → word (number_in p 0) ++ (word (number_in p 4) ++ drop 8 p) ≡ p
  two-words h =
      let e : drop 8 p ≡ drop 4 (drop 4 p) = sym (drop-drop 4 4 p) in
      rw (word_at 0 (omega arith), word_at 4 (omega arith), e, take-append-drop 4 (drop 4 p), take-append-drop 4 p)

  three-words : length p ≡ 12 → word (number_in p 0) ++ (word (number_in p 4) ++ word (number_in p 8)) ≡ p
  three-words h =
      let l : length (drop 8 p) ≤ 4 = rw length-drop (omega arith) in
      let e : word (number_in p 8) ≡ drop 8 p = word_at 8 (omega arith) ∙ take_all 4 (drop 8 p) l in
      rw e (two-words (omega arith))

  pub written : (id : ℕ) → id < 256 → Allowed id (suc (length p)) → (body (parse p id) ≡ id ∷ p) × FieldsFit (parse p id)
  unfolding message_of
  written =
      by-id (λ (id : ℕ). id < 256 → Allowed id (suc (length p)) → (body (parse p id) ≡ id ∷ p) × FieldsFit (parse p id))
      (λ b a. (ap (λ (q : List ℕ). 0 ∷ q) (no_words (omega arith)), tt))
      (λ b a. (ap (λ (q : List ℕ). 1 ∷ q) (no_words (omega arith)), tt))
      (λ b a. (ap (λ (q : List ℕ). 2 ∷ q) (no_words (omega arith)), tt))
      (λ b a. (ap (λ (q : List ℕ). 3 ∷ q) (no_words (omega arith)), tt))
      (λ b a. (ap (λ (q : List ℕ). 4 ∷ q) (one_word (omega arith)), word_in 0))
      (λ b a. (refl, bytes))
      (λ b a. (ap (λ (q : List ℕ). 6 ∷ q) (three-words (omega arith)), (word_in 0, word_in 4, word_in 8)))
      (λ b a. (ap (λ (q : List ℕ). 7 ∷ q) (two-words (omega arith)), (word_in 0, word_in 4, bytes_drop 8 p bytes)))
      (λ b a. (ap (λ (q : List ℕ). 8 ∷ q) (three-words (omega arith)), (word_in 0, word_in 4, word_in 8)))
      (λ k h b a. rw (message-other (number_in p) (λ j. drop j p) k h) (refl, (h, b, bytes)))
