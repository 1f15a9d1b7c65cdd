-- The ways out of the readers, each by the tests that lead there. Assumes nothing.
use mathlib.Core.Path.{◌≡◌, refl, sym, ap, ◌∙◌}
use mathlib.Core.Bool.{Bool, true, false, ◌&&◌}
use mathlib.Core.List.{List}
use Prim.Native.Nat.{ℕ, zero, suc, ◌+◌, ◌-◌, ◌≤◌, ◌<◌}
use native.Mathlib.Omega.{arith}
use borrow.Author.Tests.{lt-ltb, le-ltb, le-leb, leb-true, ne_eqb}
use lib.Dec.{leb}
use lib.ListN.{length, get_or, get_or-eq_default}
use Rattle.refusal.specs.Limits.{longest_frame}
use Rattle.refusal.specs.Numbers.{frame, payload}
use Rattle.refusal.specs.Paper.{taken, refused}
use Rattle.peer_wire.specs.Message.{keepalive, have, bitfield, request, piece, cancel, other}
use Rattle.peer_wire.specs.Frames.{leasts, mosts, messages, least, most, allowed, Allowed, wait, found, message_of, message_in, number_in, sized_of, read_of, map}

-- ids 0 to 8 one by one, and all others at once
pub by-id : (P : ℕ → Type 0) → P 0 → P 1 → P 2 → P 3 → P 4 → P 5 → P 6 → P 7 → P 8 → ((k : ℕ) → 8 < k → P k) → (id : ℕ) → P id
by-id P a b c d e f g h i o zero = a
by-id P a b c d e f g h i o (suc zero) = b
by-id P a b c d e f g h i o (suc (suc zero)) = c
by-id P a b c d e f g h i o (suc (suc (suc zero))) = d
by-id P a b c d e f g h i o (suc (suc (suc (suc zero)))) = e
by-id P a b c d e f g h i o (suc (suc (suc (suc (suc zero))))) = f
by-id P a b c d e f g h i o (suc (suc (suc (suc (suc (suc zero)))))) = g
by-id P a b c d e f g h i o (suc (suc (suc (suc (suc (suc (suc zero))))))) = h
by-id P a b c d e f g h i o (suc (suc (suc (suc (suc (suc (suc (suc zero)))))))) = i
by-id P a b c d e f g h i o (suc (suc (suc (suc (suc (suc (suc (suc (suc k))))))))) = o _ (omega arith)

-- ---- lengths

pub least_other : (id : ℕ) → 8 < id → least id ≡ 1
least_other id h = get_or-eq_default leasts 1 h

pub most_other : (id : ℕ) → 8 < id → most id ≡ longest_frame
most_other id h = get_or-eq_default mosts longest_frame h

pub most-most : (id : ℕ) → most id ≤ longest_frame
most-most =
    by-id (λ (id : ℕ). most id ≤ longest_frame) (omega arith) (omega arith) (omega arith) (omega arith) (omega arith) (omega arith) (omega arith) (omega arith) (omega arith)
    (λ k h. omega (arith, most_other k h))

pub least-least : (id : ℕ) → 1 ≤ least id
least-least =
    by-id (λ (id : ℕ). 1 ≤ least id) (omega arith) (omega arith) (omega arith) (omega arith) (omega arith) (omega arith) (omega arith) (omega arith) (omega arith)
    (λ k h. omega (arith, least_other k h))

module _ (id n : ℕ) where
  pub allowed-true : allowed id n ≡ true → Allowed id n
  allowed-true = go (leb (least id) n) (leb n (most id)) refl refl
    where
      go : (a b : Bool) → leb (least id) n ≡ a → leb n (most id) ≡ b → (a && b) ≡ true → Allowed id n
      go true true p q e = (leb-true _ _ p, leb-true _ _ q)
      go true false p q e = let z : ◌≡◌ {A = ℕ} 0 1 = cc in absurd (omega arith)
      go false b p q e = let z : ◌≡◌ {A = ℕ} 0 1 = cc in absurd (omega arith)

  pub allowed-if : Allowed id n → allowed id n ≡ true
  allowed-if h = rw (le-leb _ _ h.0, le-leb _ _ h.1)

  pub allowed-false : allowed id n ≡ false → Allowed id n → ⊥
  allowed-false e h =
      let t = allowed-if h in
      let z : ◌≡◌ {A = ℕ} 0 1 = cc in
      omega arith

  pub allowed-not : (Allowed id n → ⊥) → allowed id n ≡ false
  allowed-not h = go (allowed id n) refl
    where
      go : (t : Bool) → allowed id n ≡ t → t ≡ false
      go true e = absurd (h (allowed-true e))
      go false e = refl

-- ---- the ways out

module _ (s : List ℕ) (n : ℕ) where
  pub sized-long : longest_frame < n → sized_of s n ≡ refused frame 0
  unfolding sized_of
  sized-long h = rw (lt-ltb longest_frame n h)

  pub sized-zero : n ≡ 0 → sized_of s n ≡ taken (found keepalive 4)
  unfolding sized_of
  sized-zero h = rw h

  module _ (few : n ≤ longest_frame) (some : 0 < n) where
    pub sized-wait : length s < 4 + n → sized_of s n ≡ taken wait
    unfolding sized_of
    sized-wait h = rw (le-ltb longest_frame n few, ne_eqb n 0 (λ e. omega arith), lt-ltb _ _ h)

    module _ (there : 4 + n ≤ length s) where
      pub sized-wrong : allowed (get_or s 4 0) n ≡ false → sized_of s n ≡ refused payload 0
      unfolding sized_of
      sized-wrong h = rw (le-ltb longest_frame n few, ne_eqb n 0 (λ e. omega arith), le-ltb _ _ there, h)

      pub sized-whole : allowed (get_or s 4 0) n ≡ true → sized_of s n ≡ taken (found (message_in s n) (4 + n))
      unfolding sized_of
      sized-whole h = rw (le-ltb longest_frame n few, ne_eqb n 0 (λ e. omega arith), le-ltb _ _ there, h)

module _ (s : List ℕ) where
  pub read-few : length s < 4 → read_of s ≡ taken wait
  unfolding read_of
  read-few h = rw (lt-ltb (length s) 4 h)

  pub read-sized : 4 ≤ length s → read_of s ≡ sized_of s (number_in s 0)
  unfolding read_of
  read-sized h = rw (le-ltb (length s) 4 h)

-- ---- the message of an id

module _ {B : Type 0} (number : ℕ → ℕ) (from : ℕ → B) where
  pub message-other : (id : ℕ) → 8 < id → message_of number from id ≡ other id (from 0)
  unfolding message_of
  message-other id h = get_or-eq_default (messages number from) (other id (from 0)) h

-- what is made of the runs of bytes is made within the message
pub message-map : {A B : Type 0} (f : A → B) (number : ℕ → ℕ) (from : ℕ → A) (id : ℕ) → map f (message_of number from id) ≡ message_of number (λ k. f (from k)) id
unfolding message_of
message-map f number from =
    by-id (λ (id : ℕ). map f (message_of number from id) ≡ message_of number (λ k. f (from k)) id) refl refl refl refl refl refl refl refl refl
    (λ k h. ap (map f) (message-other number from k h) ∙ sym (message-other number (λ j. f (from j)) k h))

-- numbers and bytes that are the same as far as the frame goes give the same message
module _ {B : Type 0} {number number' : ℕ → ℕ} {from from' : ℕ → B} (n : ℕ) (same : (k : ℕ) → 5 + k ≤ n → number k ≡ number' k) (alike : (k : ℕ) → from k ≡ from' k) where
  pub message-same : (id : ℕ) → least id ≤ n → message_of number from id ≡ message_of number' from' id
  unfolding message_of
  message-same =
      by-id (λ (id : ℕ). least id ≤ n → message_of number from id ≡ message_of number' from' id)
      (λ h. refl)
      (λ h. refl)
      (λ h. refl)
      (λ h. refl)
      (λ h. ap have (same 0 (omega arith)))
      (λ h. ap bitfield (alike 0))
      (λ h. let x = same 0 (omega arith) in let y = same 4 (omega arith) in let z = same 8 (omega arith) in cc)
      (λ h. let x = same 0 (omega arith) in let y = same 4 (omega arith) in let z = alike 8 in cc)
      (λ h. let x = same 0 (omega arith) in let y = same 4 (omega arith) in let z = same 8 (omega arith) in cc)
      (λ k g h. message-other number from k g ∙ ap (other k) (alike 0) ∙ sym (message-other number' from' k g))

-- ---- the arms of the code's match on the id

pub other-id : (id : ℕ) → (id ≡ 0 → ⊥) → (id ≡ 1 → ⊥) → (id ≡ 2 → ⊥) → (id ≡ 3 → ⊥) → (id ≡ 4 → ⊥) → (id ≡ 5 → ⊥) → (id ≡ 6 → ⊥) → (id ≡ 7 → ⊥) → (id ≡ 8 → ⊥) → 8 < id
other-id =
    by-id
    (λ (id : ℕ). (id ≡ 0 → ⊥) → (id ≡ 1 → ⊥) → (id ≡ 2 → ⊥) → (id ≡ 3 → ⊥) → (id ≡ 4 → ⊥) → (id ≡ 5 → ⊥) → (id ≡ 6 → ⊥) → (id ≡ 7 → ⊥) → (id ≡ 8 → ⊥) → 8 < id)
    (λ a b c d e f g h i. absurd (a refl))
    (λ a b c d e f g h i. absurd (b refl))
    (λ a b c d e f g h i. absurd (c refl))
    (λ a b c d e f g h i. absurd (d refl))
    (λ a b c d e f g h i. absurd (e refl))
    (λ a b c d e f g h i. absurd (f refl))
    (λ a b c d e f g h i. absurd (g refl))
    (λ a b c d e f g h i. absurd (h refl))
    (λ a b c d e f g h i. absurd (i refl))
    (λ k l a b c d e f g h i. l)

-- a frame of length n at the start of s, whose id is allowed it
module _ (s : List ℕ) (n : ℕ) {id : ℕ} (i : id ≡ get_or s 4 0) where
  -- the length of one of the ids 0 to 8
  pub reaches : (k : ℕ) → id ≡ k → allowed id n ≡ true → get_or leasts k 1 ≤ n
  reaches k e a = rw e at (allowed-true id n a).0

  pub says : (k : ℕ) → id ≡ k → get_or (messages (λ j. number_in s (5 + j)) (λ j. record { from = 5 + j; len = n - (1 + j) })) k (other k (record { from = 5; len = n - 1 })) ≡ message_in s n
  unfolding message_of
  says k e = ap (message_of (λ j. number_in s (5 + j)) (λ j. record { from = 5 + j; len = n - (1 + j) })) (sym e ∙ i)

  pub request-says : {a b c : ℕ} → a ≡ number_in s 5 → b ≡ number_in s 9 → c ≡ number_in s 13 → id ≡ 6 → request a b c ≡ message_in s n
  request-says x y z e = rw (x, y, z) (says 6 e)

  pub cancel-says : {a b c : ℕ} → a ≡ number_in s 5 → b ≡ number_in s 9 → c ≡ number_in s 13 → id ≡ 8 → cancel a b c ≡ message_in s n
  cancel-says x y z e = rw (x, y, z) (says 8 e)

  pub piece-says : {a b : ℕ} → a ≡ number_in s 5 → b ≡ number_in s 9 → id ≡ 7 → piece a b (record { from = 13; len = n - 9 }) ≡ message_in s n
  piece-says x y e = rw (x, y) (says 7 e)

  pub other-says : 8 < id → other id (record { from = 5; len = n - 1 }) ≡ message_in s n
  other-says h =
      sym (message-other (λ j. number_in s (5 + j)) (λ j. record { from = 5 + j; len = n - (1 + j) }) id h)
      ∙ ap (message_of (λ j. number_in s (5 + j)) (λ j. record { from = 5 + j; len = n - (1 + j) })) i
