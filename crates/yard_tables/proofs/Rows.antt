-- Which bits a row has after a bit or a run of bits is set in it, and after it is cleared. Assumes nothing.
use mathlib.Core.Path.{◌≡◌, sym, ap, ap₂, ◌∙◌}
use mathlib.Core.Logic.{◌≢◌}
use mathlib.Core.Bool.{false, ◌||◌}
use mathlib.Core.List.{List}
use Prim.Native.Nat.{ℕ, ◌+◌, ◌-◌, ◌*◌, ◌/◌, ◌%◌, ◌^◌, ◌≤◌, ◌<◌}
use native.Mathlib.Nat.{mul-le-mul_right, suc-mul}
use native.Mathlib.Omega.{arith}
use borrow.Author.Tests.{eq-eqb, ne_eqb}
use lib.Bits.{bit_or}
use lib.Dec.{eqb}
use lib.ListN.{length, get_or, replicate, length-replicate, get_or-replicate, get_or-eq_default}
use lib.Seq.{get_or-set_same, get_or-set_other}
use Rattle.refusal.proofs.Cases.{same_or, less-or, or-first}
use Rattle.yard_tables.specs.Rows.{digit, bit_at, has_in, with_bit, with_bits, without_bits}
use Rattle.yard_tables.proofs.Digits.{digit_or, digit-zero, digit-pow, row_in}
use Rattle.yard_tables.proofs.Sweeps.{sweep, sweep-in, sweep-out, sweep-or, sweep-none}

eqb-iff : (a b c d : ℕ) → (a ≡ b → c ≡ d) → (c ≡ d → a ≡ b) → eqb a b ≡ eqb c d
eqb-iff a b c d f g = same_or a b
    (λ e. eq-eqb a b e ∙ sym (eq-eqb c d (f e)))
    (λ n. ne_eqb a b n ∙ sym (ne_eqb c d (λ e. n (g e))))

-- no row of blank bytes has a bit
pub blank : (w n i p : ℕ) → has_in w (replicate n 0) i p ≡ false
blank w n i p = less-or (i * w + p / 8) n
    (λ l. rw (get_or-replicate {A = ℕ} n (i * w + p / 8) 0 0 l) (digit-zero (7 - p % 8)))
    (λ l. rw (get_or-eq_default {A = ℕ} (replicate n 0) 0 {n = i * w + p / 8} (rw length-replicate l)) (digit-zero (7 - p % 8)))

apart : (w i j a b : ℕ) → a < w → b < w → i ≢ j → i * w + a ≢ j * w + b
apart w i j a b h l n e = less-or i j
    (λ q. omega (arith, mul-le-mul_right w q, suc-mul i w))
    (λ q. let r : j < i = omega arith in omega (arith, mul-le-mul_right w r, suc-mul j w))

-- row i of the rows, each of w bytes
module _ (w n : ℕ) (rows : List ℕ) (size : length rows ≡ n * w) (i : ℕ) (h : i < n) where
  inside : i * w + w ≤ length rows
  inside = omega (arith, row_in i n w h)

  pub bit-here : (p q : ℕ) → p < 8 * w → has_in w (with_bit w i p rows) i q ≡ (has_in w rows i q || eqb q p)
  bit-here p q l = same_or (q / 8) (p / 8)
      (λ e. ap (λ (x : ℕ). digit (7 - q % 8) (get_or (with_bit w i p rows) (i * w + x) 0)) e
      ∙ ap (digit (7 - q % 8)) (get_or-set_same rows (i * w + p / 8) _ 0 (omega (arith, inside)))
      ∙ digit_or (7 - q % 8) (get_or rows (i * w + p / 8) 0) (2 ^ (7 - p % 8))
      ∙ ap₂ ◌||◌ (ap (λ (x : ℕ). digit (7 - q % 8) (get_or rows (i * w + x) 0)) (sym e))
      (digit-pow (7 - q % 8) (7 - p % 8) ∙ eqb-iff (7 - q % 8) (7 - p % 8) q p (λ r. omega arith) (λ r. omega arith)))
      (λ m. ap (digit (7 - q % 8)) (get_or-set_other rows (i * w + p / 8) (i * w + q / 8) _ 0 (λ r. omega arith))
      ∙ sym (or-first _ (eqb q p) (ne_eqb q p (λ r. m (ap (λ (x : ℕ). x / 8) r)))))

  pub bit-other : (p j q : ℕ) → p < 8 * w → q < 8 * w → j ≢ i → has_in w (with_bit w i p rows) j q ≡ has_in w rows j q
  bit-other p j q l m d = ap (digit (7 - q % 8)) (get_or-set_other rows (i * w + p / 8) (j * w + q / 8) _ 0 (apart w j i (q / 8) (p / 8) (omega arith) (omega arith) d))

  -- a sweep over row i leaves the other rows
  sweep-other : (g : ℕ → ℕ → ℕ) (j q : ℕ) → q < 8 * w → j ≢ i → has_in w (sweep 0 (λ k. i * w + k) g w rows) j q ≡ has_in w rows j q
  sweep-other g j q m d =
      ap (digit (7 - q % 8)) (sweep-out 0 (λ k. i * w + k) g w (j * w + q / 8) rows (λ k l. apart w j i (q / 8) k (omega arith) l d))

  pub bits-here : (bs : List ℕ) (q : ℕ) → q < 8 * w → has_in w (with_bits w i bs rows) i q ≡ (has_in w rows i q || bit_at bs q)
  bits-here bs q m =
      ap (λ (l : List ℕ). has_in w l i q) (sym (sweep-or w i rows inside bs))
      ∙ ap (digit (7 - q % 8)) (sweep-in 0 (λ k. i * w + k) (λ k x. bit_or x (get_or bs k 0)) w (q / 8) rows (λ a b l r e. omega arith) (λ a l. omega (arith, inside)) (omega arith))
      ∙ digit_or (7 - q % 8) (get_or rows (i * w + q / 8) 0) (get_or bs (q / 8) 0)

  pub bits-other : (bs : List ℕ) (j q : ℕ) → q < 8 * w → j ≢ i → has_in w (with_bits w i bs rows) j q ≡ has_in w rows j q
  bits-other bs j q m d = ap (λ (l : List ℕ). has_in w l j q) (sym (sweep-or w i rows inside bs)) ∙ sweep-other (λ k x. bit_or x (get_or bs k 0)) j q m d

  pub none_here : (q : ℕ) → q < 8 * w → has_in w (without_bits w i rows) i q ≡ false
  none_here q m =
      ap (λ (l : List ℕ). has_in w l i q) (sym (sweep-none w i rows inside))
      ∙ ap (digit (7 - q % 8)) (sweep-in 0 (λ k. i * w + k) (λ k x. 0) w (q / 8) rows (λ a b l r e. omega arith) (λ a l. omega (arith, inside)) (omega arith))
      ∙ digit-zero (7 - q % 8)

  pub none_other : (j q : ℕ) → q < 8 * w → j ≢ i → has_in w (without_bits w i rows) j q ≡ has_in w rows j q
  none_other j q m d = ap (λ (l : List ℕ). has_in w l j q) (sym (sweep-none w i rows inside)) ∙ sweep-other (λ k x. 0) j q m d
