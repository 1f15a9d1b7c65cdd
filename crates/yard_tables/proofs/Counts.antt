-- How many k below n have f, and what a change at one place does to it; whether some do. Assumes nothing.
use mathlib.Core.Path.{◌≡◌, refl, sym, ap}
use mathlib.Core.Logic.{◌≢◌, ◌⊎◌, inl, inr, ⊎_elim}
use mathlib.Core.Bool.{Bool, true, false, not, ◌&&◌, ◌||◌}
use Prim.Native.Nat.{ℕ, zero, suc, ◌+◌, ◌≤◌, ◌<◌}
use native.Mathlib.Nat.{eq-or-lt_of_le, le_of_suc-le-suc, not-suc-le-zero}
use native.Mathlib.Omega.{arith}
use Rattle.refusal.proofs.Cases.{same_or, cannot, by_bool, or-none, or_left, or_right, false-if}
use Rattle.yard_tables.specs.Counting.{bit, count, some}

pub bit_le : (b : Bool) → bit b ≤ 1
bit_le true = omega arith
bit_le false = omega arith

pub bit-sub : (a b : Bool) → (a ≡ true → b ≡ true) → bit a ≤ bit b
bit-sub true b q = rw (q refl) (omega arith)
bit-sub false b q = omega arith

module _ (f g : ℕ → Bool) where
  pub count-ext : (n : ℕ) → ((k : ℕ) → k < n → f k ≡ g k) → count n f ≡ count n g
  count-ext zero h = refl
  count-ext (suc n) h =
      let a : count n f ≡ count n g = count-ext n (λ k l. h k (omega arith)) in
      let b : bit (f n) ≡ bit (g n) = ap bit (h n (omega arith)) in
      omega arith

  -- where f has it g has it
  pub count-sub : (n : ℕ) → ((k : ℕ) → f k ≡ true → g k ≡ true) → count n f ≤ count n g
  count-sub zero h = omega arith
  count-sub (suc n) h = omega (arith, count-sub n h, bit-sub (f n) (g n) (h n))

  -- g is f but at i
  pub count-change : (n i : ℕ) → i < n → ((k : ℕ) → k < n → k ≢ i → g k ≡ f k) → count n g + bit (f i) ≡ count n f + bit (g i)
  count-change zero i l h = absurd (not-suc-le-zero l)
  count-change (suc n) i l h = go (eq-or-lt_of_le (le_of_suc-le-suc l)) (λ m. count-change n i m (λ k q. h k (omega arith)))
    where
      go : (i ≡ n) ⊎ (i < n) → (i < n → count n g + bit (f i) ≡ count n f + bit (g i)) → count (suc n) g + bit (f i) ≡ count (suc n) f + bit (g i)
      go (inl e) r =
          let a : count n f ≡ count n g = count-ext n (λ k q. sym (h k (omega arith) (omega arith))) in
          rw e (omega arith)
      go (inr m) r =
          let a : bit (g n) ≡ bit (f n) = ap bit (h n (omega arith) (omega arith)) in
          omega (arith, r m)

module _ (f : ℕ → Bool) where
  pub count-le : (n : ℕ) → count n f ≤ n
  count-le zero = omega arith
  count-le (suc n) = omega (arith, count-le n, bit_le (f n))

  pub count_none : (n : ℕ) → ((k : ℕ) → k < n → f k ≡ false) → count n f ≡ 0
  count_none zero h = refl
  count_none (suc n) h =
      let a : bit (f n) ≡ 0 = ap bit (h n (omega arith)) in omega (arith, count_none n (λ k l. h k (omega arith)))

  -- one place has it, or lacks it
  pub count-has : (n i : ℕ) → i < n → bit (f i) ≤ count n f
  count-has zero i l = absurd (not-suc-le-zero l)
  count-has (suc n) i l = ⊎_elim (λ e. rw e (omega arith)) (λ m. omega (arith, count-has n i m)) (eq-or-lt_of_le (le_of_suc-le-suc l))

  pub count-lacks : (n i : ℕ) → i < n → count n f + 1 ≤ n + bit (f i)
  count-lacks zero i l = absurd (not-suc-le-zero l)
  count-lacks (suc n) i l =
      ⊎_elim (λ e. rw e (omega (arith, count-le n))) (λ m. omega (arith, count-lacks n i m, bit_le (f n))) (eq-or-lt_of_le (le_of_suc-le-suc l))

-- a or b: those of a, and those of b that a lacks
pub or_split : (a b : Bool) → bit (a || b) ≡ bit a + bit (b && not a)
or_split true true = refl
or_split true false = refl
or_split false true = refl
or_split false false = refl

module _ (f g : ℕ → Bool) where
  pub count-or : (n : ℕ) → count n (λ k. f k || g k) ≡ count n f + count n (λ k. g k && not (f k))
  count-or zero = refl
  count-or (suc n) = omega (arith, count-or n, or_split (f n) (g n))

module _ (f g : ℕ → Bool) where
  -- where f has it g has it, and g has it at i, where f lacks it
  pub count_less : (n i : ℕ) → i < n → ((k : ℕ) → f k ≡ true → g k ≡ true) → f i ≡ false → g i ≡ true → count n f < count n g
  count_less zero i l h a b = absurd (not-suc-le-zero l)
  count_less (suc n) i l h a b = same_or i n
      (λ e. let x : bit (f n) ≡ 0 = ap bit (rw e at a) in
      let y : bit (g n) ≡ 1 = ap bit (rw e at b) in
      omega (arith, count-sub f g n h))
      (λ e. omega (arith, count_less n i (omega arith) h a b, bit-sub (f n) (g n) (h n)))

-- f is g or else h
pub count-sum : (f g h : ℕ → Bool) (n : ℕ) → ((k : ℕ) → bit (f k) ≡ bit (g k) + bit (h k)) → count n f ≡ count n g + count n h
count-sum f g h zero e = refl
count-sum f g h (suc n) e = omega (arith, count-sum f g h n e, e n)

-- no two have it
pub count-once : (f : ℕ → Bool) (n : ℕ) → ((i j : ℕ) → i < n → j < n → f i ≡ true → f j ≡ true → i ≡ j) → count n f ≤ 1
count-once f zero h = omega arith
count-once f (suc n) h = by_bool (f n)
    (λ e. let z : count n f ≡ 0 = count_none f n (λ k l. false-if (f k) (λ t. omega (arith, h k n (omega arith) (omega arith) t e))) in
    omega (arith, bit_le (f n)))
    (λ e. let z : bit (f n) ≡ 0 = ap bit e in
    omega (arith, count-once f n (λ i j a b. h i j (omega arith) (omega arith))))

module _ (f : ℕ → Bool) where
  pub some-none : (n : ℕ) → ((k : ℕ) → k < n → f k ≡ false) → some n f ≡ false
  some-none zero h = refl
  some-none (suc n) h = or-none (some n f) (f n) (some-none n (λ k l. h k (omega arith))) (h n (omega arith))

  -- the one that has it, where some do; none has it, where none do
  pub some_one : (n : ℕ) → some n f ≡ true → (k : ℕ) × (k < n) × (f k ≡ true)
  some_one zero h = cannot false refl h
  some_one (suc n) h = go (some n f) (some_one n) h
    where
      go : (b : Bool) → (b ≡ true → (k : ℕ) × (k < n) × (f k ≡ true)) → (b || f n) ≡ true → (k : ℕ) × (k < suc n) × (f k ≡ true)
      go true r e = let t = r refl in (t.0, omega (arith, t.1), t.2)
      go false r e = (n, omega arith, e)

  pub some-every : (n : ℕ) → some n f ≡ false → (k : ℕ) → k < n → f k ≡ false
  some-every zero e k l = absurd (not-suc-le-zero l)
  some-every (suc n) e k l = same_or k n
      (λ q. rw q (or_right (some n f) (f n) e))
      (λ q. some-every n (or_left (some n f) (f n) e) k (omega arith))
