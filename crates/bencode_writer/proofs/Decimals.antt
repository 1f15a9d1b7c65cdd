-- The digits of a number, from the last to the first. Assumes nothing.
use Rattle.std.proofs.Common.{◌≡◌, refl, sym, ap, ◌∙◌, Bool, true, false, List, [], ◌∷◌, ◌++◌, ℕ, zero, suc, ◌+◌, ◌*◌, ◌-◌, ◌/◌, ◌%◌, ◌^◌, ◌<◌, ◌≤◌, max, ltb, length, set, arith, add-one, length-append, length-set}
use native.Mathlib.Nat.{pow-succ'}
use lib.Seq.{sets}
use borrow.Author.Tests.{ltb-true, ltb-false}
use Rattle.refusal.proofs.Cases.{less-or}
use Rattle.bencode_scalar.specs.Written.{decimal}
use Rattle.bencode_scalar.proofs.Printed.{dec-small, decimal_step}
use Rattle.bencode_writer.proofs.Stores.{sets_last}

pub decimal-one : (n : ℕ) → n < 10 → decimal n ≡ (48 + n) ∷ []
decimal-one n h = dec-small n n h

pub decimal-last : (n : ℕ) → 10 ≤ n → decimal n ≡ decimal (n / 10) ++ ((48 + n % 10) ∷ [])
decimal-last n h =
    let e : n ≡ n / 10 * 10 + n % 10 = omega arith in
    ap decimal e ∙ decimal_step (n / 10) (n % 10) (omega arith) (omega arith)

pub length-one : (n : ℕ) → n < 10 → length (decimal n) ≡ 1
length-one n h = ap length (decimal-one n h)

pub length_last : (n : ℕ) → 10 ≤ n → length (decimal n) ≡ length (decimal (n / 10)) + 1
length_last n h = ap length (decimal-last n h) ∙ length-append (decimal (n / 10)) ((48 + n % 10) ∷ [])

-- a number below ten to the k-th has at most k digits
pub length_most : (k n : ℕ) → n < 10 ^ suc k → length (decimal n) ≤ suc k
length_most zero n h = omega (arith, length-one n h)
length_most (suc k) n h = go (length_most k (n / 10)) (ltb n 10) refl
  where
    go : (n / 10 < 10 ^ suc k → length (decimal (n / 10)) ≤ suc k) → (t : Bool) → ltb n 10 ≡ t → length (decimal n) ≤ suc (suc k)
    go more true e = omega (arith, length-one n (ltb-true n 10 e))
    go more false e =
        let p = pow-succ' 10 (suc k) in
        omega (arith, length_last n (ltb-false n 10 e), more (omega arith))

-- ten to the k-th and more, but less than ten times as much, has one digit more than k
pub length-power : (k n : ℕ) → 10 ^ k ≤ n → n < 10 * 10 ^ k → length (decimal n) ≡ k + 1
length-power zero n h l = omega (arith, length-one n (omega arith))
length-power (suc k) n h l =
    let p = pow-succ' 10 k in
    omega (arith, length_last n (omega arith), length-power k (n / 10) (omega arith) (omega arith))

-- 0 has a digit, as 1 has
pub length-log : (n k : ℕ) → 10 ^ k ≤ max n 1 → max n 1 < 10 * 10 ^ k → k + 1 ≡ length (decimal n)
length-log n k h l =
    less-or n 1 (λ z. let e : max n 1 ≡ 1 = omega arith in let f : n < 10 = omega arith in omega (arith, length-power k 1 (rw e at h) (rw e at l), length-one n f, length-one 1 (omega arith)))
    (λ z. let e : max n 1 ≡ n = omega arith in sym (length-power k n (rw e at h) (rw e at l)))

-- the last k digits of a number
unfoldable pub low : ℕ → ℕ → List ℕ
low zero n = []
low (suc k) n = low k (n / 10) ++ ((48 + n % 10) ∷ [])

length-low : (k n : ℕ) → length (low k n) ≡ k
unfolding low
length-low zero n = refl
length-low (suc k) n = omega (arith, length-append (low k (n / 10)) ((48 + n % 10) ∷ []), length-low k (n / 10))

all-low : (f n : ℕ) → n < f → low (length (decimal n)) n ≡ decimal n
unfolding low
all-low zero n h = absurd (omega arith)
all-low (suc f) n h = less-or n 10
    (λ l. let e : n % 10 ≡ n = omega arith in rw (length-one n l, decimal-one n l, e))
    (λ l. rw (length_last n l, add-one, all-low f (n / 10) (omega arith)) (sym (decimal-last n l)))

-- the last digits of `rest` are still to be stored, before `end`
pub record Printing (n at : ℕ) (before out : List ℕ) (rest end : ℕ) : Type 0 where
  pub count : ℕ
  pub place : end ≡ at + count
  pub room : end ≤ length out
  pub same : sets out at (low count rest) ≡ sets before at (decimal n)

module _ (n at : ℕ) (before : List ℕ) where
  pub printing-start : at + length (decimal n) ≤ length before → {end : ℕ} → end ≡ at + length (decimal n) → Printing n at before before n end
  printing-start h e = record { count = length (decimal n); place = e; room = omega arith; same = ap (sets before at) (all-low (suc n) n (omega arith)) }

  one-more : (out : List ℕ) (rest end k : ℕ) → end ≡ at + k → at < end → end ≤ length out → sets out at (low k rest) ≡ sets before at (decimal n)
      → Printing n at before (set out (end - 1) (48 + rest % 10)) (rest / 10) (end - 1)
  unfolding low
  one-more out rest end zero e l h s = absurd (omega arith)
  one-more out rest end (suc k) e l h s =
      let f : end - 1 ≡ at + k = omega arith in
      let g : end - 1 ≡ at + length (low k (rest / 10)) = omega (arith, length-low k (rest / 10)) in
      record {
        count = k;
        place = f;
        room = simp length-set (omega arith);
        same = rw g (sets_last out at (low k (rest / 10)) (48 + rest % 10)) ∙ s;
      }

  none-left : (out : List ℕ) (rest k : ℕ) → k ≡ 0 → sets out at (low k rest) ≡ sets before at (decimal n) → out ≡ sets before at (decimal n)
  unfolding low
  none-left out rest zero e s = s
  none-left out rest (suc k) e s = absurd (omega arith)

  module _ {out : List ℕ} {rest end : ℕ} (p : Printing n at before out rest end) where
    pub printing-more : at < end → Printing n at before (set out (end - 1) (48 + rest % 10)) (rest / 10) (end - 1)
    printing-more l = one-more out rest end p.count p.place l p.room p.same

    pub printing-end : end ≤ at → out ≡ sets before at (decimal n)
    printing-end l = none-left out rest p.count (omega (arith, p.place)) p.same
