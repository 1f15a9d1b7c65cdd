-- The laws of the digits at a place of a text. Assumes nothing.
use Rattle.std.proofs.Common.{◌≡◌, refl, ◌∙◌, Bool, true, false, cond, List, [], ◌∷◌, ℕ, suc, ◌+◌, ◌*◌, ◌-◌, ◌<◌, ◌≤◌, min, arith, add-one, ltb, length, get_or, drop, drop_of_length-le}
use lib.Seq.{drop-cons}
use borrow.Author.Tests.{lt-ltb, le-ltb, ltb-true, ltb-false}
use Rattle.refusal.proofs.Cases.{by-test}
use Rattle.bencode_scalar.specs.Reading.{is_digit, digits_val, digits_len}

abbrev pub cap : ℕ
cap = 18446744073709551615

split : (b : ℕ) (t : Bool) → ltb b 48 ≡ t → cond t false (ltb b 58) ≡ true → (48 ≤ b) × (b < 58)
split b true e h = let z : ◌≡◌ {A = ℕ} 0 1 = cc in absurd (omega arith)
split b false e h = (ltb-false b 48 e, ltb-true b 58 h)

pub digit-range : (b : ℕ) → is_digit b ≡ true → (48 ≤ b) × (b < 58)
digit-range b h = split b (ltb b 48) refl h

pub range-digit : (b : ℕ) → 48 ≤ b → b < 58 → is_digit b ≡ true
range-digit b h k = simp (le-ltb b 48 h, lt-ltb b 58 k)

module _ (s : List ℕ) (i : ℕ) where
  pub val-more : (n : ℕ) → i < length s → is_digit (get_or s i 0) ≡ true → digits_val n (drop i s) ≡ digits_val (n * 10 + (get_or s i 0 - 48)) (drop (i + 1) s)
  unfolding digits_val
  val-more n h d = rw (add-one, drop-cons s i 0 h, d)

  pub val-stop : (n : ℕ) → i < length s → is_digit (get_or s i 0) ≡ false → digits_val n (drop i s) ≡ n
  unfolding digits_val
  val-stop n h d = rw (drop-cons s i 0 h, d)

  pub val-end : (n : ℕ) → length s ≤ i → digits_val n (drop i s) ≡ n
  unfolding digits_val
  val-end n h = rw (drop_of_length-le s h)

  pub len_more : i < length s → is_digit (get_or s i 0) ≡ true → digits_len (drop i s) ≡ suc (digits_len (drop (i + 1) s))
  unfolding digits_len
  len_more h d = rw (add-one, drop-cons s i 0 h, d)

  pub len-stop : i < length s → is_digit (get_or s i 0) ≡ false → digits_len (drop i s) ≡ 0
  unfolding digits_len
  len-stop h d = rw (drop-cons s i 0 h, d)

  pub len-end : length s ≤ i → digits_len (drop i s) ≡ 0
  unfolding digits_len
  len-end h = rw (drop_of_length-le s h)

-- a run of digits from `at` on, of which those before i are passed
pub record Passing (s : List ℕ) (at i : ℕ) : Type 0 where
  pub begun : at ≤ i
  pub within : i ≤ length s
  pub place : at + digits_len (drop at s) ≡ i + digits_len (drop i s)

module _ (s : List ℕ) (at : ℕ) where
  pub passing-start : at ≤ length s → Passing s at at
  passing-start h = record { begun = omega arith; within = h; place = refl }

  pub passing-more : {i : ℕ} → Passing s at i → i < length s → is_digit (get_or s i 0) ≡ true → Passing s at (i + 1)
  passing-more {i} w h d = record { begun = omega (arith, w.begun); within = omega arith; place = omega (arith, w.place, len_more s i h d) }

  pub passing-stop : {i : ℕ} → Passing s at i → i < length s → is_digit (get_or s i 0) ≡ false → i ≡ at + digits_len (drop at s)
  passing-stop {i} w h d = omega (arith, w.place, len-stop s i h d)

  pub passing-end : {i : ℕ} → Passing s at i → length s ≤ i → i ≡ at + digits_len (drop at s)
  passing-end {i} w h = omega (arith, w.place, len-end s i h)

-- digits that follow make no number less
digits-least : (n : ℕ) (l : List ℕ) → n ≤ digits_val n l
unfolding digits_val
digits-least n [] = omega arith
digits-least n (b ∷ t) = by-test (λ (m : ℕ). n ≤ m) (is_digit b) (λ e. omega (arith, digits-least (n * 10 + (b - 48)) t)) (λ e. omega arith)

-- the same, added up as far as the cap
pub record Reading (s : List ℕ) (at acc i value : ℕ) : Type 0 where
  pub passed : Passing s at i
  pub true-value : ℕ
  pub capped : value ≡ min true-value cap
  pub same : digits_val acc (drop at s) ≡ digits_val true-value (drop i s)

module _ (s : List ℕ) (at acc : ℕ) where
  pub reading-start : at ≤ length s → acc < 10 → Reading s at acc at acc
  reading-start h k = record { passed = passing-start s at h; true-value = acc; capped = omega arith; same = refl }

  -- a digit more, as far as the cap
  pub reading_step : {i v w : ℕ} → Reading s at acc i v → i < length s → is_digit (get_or s i 0) ≡ true → w ≡ min (min (v * 10) cap + (get_or s i 0 - 48)) cap → Reading s at acc (i + 1) w
  reading_step {i} {v} {w} r h d e = record {
    passed = passing-more s at r.passed h d;
    true-value = r.true-value * 10 + (get_or s i 0 - 48);
    capped = omega (arith, r.capped, e);
    same = r.same ∙ val-more s i r.true-value h d;
  }

  pub reading-more : {i v w : ℕ} → Reading s at acc i v → i < length s → is_digit (get_or s i 0) ≡ true → v < 1000000000000000000 → w ≡ v * 10 + (get_or s i 0 - 48)
      → Reading s at acc (i + 1) w
  reading-more {i} r h d l e = let k = digit-range (get_or s i 0) d in reading_step r h d (omega arith)

  pub reading-stop : {i v : ℕ} → Reading s at acc i v → i < length s → is_digit (get_or s i 0) ≡ false
      → (v ≡ min (digits_val acc (drop at s)) cap) × (i ≡ at + digits_len (drop at s))
  reading-stop {i} {v} r h d = (omega (arith, r.capped, r.same, val-stop s i r.true-value h d), passing-stop s at r.passed h d)

  -- what is read is enough, and the run goes on
  pub reading-enough : {i v r : ℕ} → Reading s at acc i v → cap ≤ v → r ≡ i + digits_len (drop i s)
      → (v ≡ min (digits_val acc (drop at s)) cap) × (r ≡ at + digits_len (drop at s))
  reading-enough {i} {v} {r} w l e = (omega (arith, w.capped, w.same, digits-least w.true-value (drop i s)), omega (arith, w.passed.place, e))

  pub reading-end : {i v : ℕ} → Reading s at acc i v → length s ≤ i
      → (v ≡ min (digits_val acc (drop at s)) cap) × (i ≡ at + digits_len (drop at s))
  reading-end {i} {v} r h = (omega (arith, r.capped, r.same, val-end s i r.true-value h), passing-end s at r.passed h)
