-- The digits of a number, and what may follow them. Assumes nothing.
use Rattle.std.proofs.Common.{◌≡◌, refl, sym, ap, ◌∙◌, Bool, true, false, cond, List, [], ◌∷◌, ◌++◌, ℕ, zero, suc, ◌-◌, ◌≤◌, arith, ltb, eqb, length, drop}
use lib.Seq.{drop-append_seam}
use borrow.Author.Tests.{ltb-true, ltb-false, ne_eqb}
use Rattle.refusal.proofs.Cases.{by-test}
use Rattle.bencode_scalar.specs.Written.{decimal}
use Rattle.bencode_scalar.specs.Reading.{is_digit, more, digits_val, digits_len, num_val, num_len}
use Rattle.bencode_scalar.proofs.Decimal.{range-digit}
use Rattle.bencode_scalar.proofs.Printed.{shape, decimal-zero}

-- r does not go on with the digits of m
abbrev pub Over : ℕ → List ℕ → Type 0
Over m [] = Unit
Over m (c ∷ r) = more m c ≡ false

pub more-other : (m c : ℕ) → is_digit c ≡ false → more m c ≡ false
more-other zero c h = refl
more-other (suc m) c h = h

over_zero : (r : List ℕ) → Over 0 r
over_zero [] = tt
over_zero (c ∷ r) = refl

over-run : (m : ℕ) (t : List ℕ) → Over m (drop (digits_len t) t)
unfolding digits_len
over-run m [] = tt
over-run m (b ∷ t) = by-test (λ (k : ℕ). Over m (drop k (b ∷ t))) (is_digit b) (λ e. over-run m t) (λ e. more-other m b e)

over_by : (b : ℕ) (t : List ℕ) (x : Bool) → Over (cond x 0 (digits_val (b - 48) t)) (drop (cond x 0 (digits_len t)) t)
over_by b t true = over_zero t
over_by b t false = over-run (digits_val (b - 48) t) t

-- a number that is read: its digits, and all of them
pub over-number : (b : ℕ) (t : List ℕ) → Over (num_val b t) (drop (num_len b t) t)
over-number b t = over_by b t (eqb b 48)

val-over : (m : ℕ) (r : List ℕ) → 1 ≤ m → Over m r → digits_val m r ≡ m
unfolding digits_val
val-over zero r h o = absurd (omega arith)
val-over (suc m) [] h o = refl
val-over (suc m) (c ∷ r) h o = rw o

len-over : (m : ℕ) (r : List ℕ) → 1 ≤ m → Over m r → digits_len r ≡ 0
unfolding digits_len
len-over zero r h o = absurd (omega arith)
len-over (suc m) [] h o = refl
len-over (suc m) (c ∷ r) h o = rw o

-- a number that is written: it is read as such, up to r
pub record Digits (m : ℕ) (r : List ℕ) : Type 0 where
  pub first : ℕ
  pub rest : List ℕ
  pub text : decimal m ++ r ≡ first ∷ rest
  pub starts : is_digit first ≡ true
  pub value : num_val first rest ≡ m
  pub left : drop (num_len first rest) rest ≡ r
  pub size : suc (num_len first rest) ≡ length (decimal m)
  pub not-zero : 1 ≤ m → first ≡ 48 → ⊥

digits-by : (m : ℕ) (r : List ℕ) → Over m r → (x : Bool) → ltb 0 m ≡ x → Digits m r
digits-by m r o true e =
    let k : 1 ≤ m = ltb-true 0 m e in
    let h = shape m k in
    let n : (h.first ≡ 48) → ⊥ = omega (arith, h.low) in
    let z : digits_len (h.others ++ r) ≡ length h.others = omega (arith, h.len r, len-over m r k o) in
    record {
      first = h.first;
      rest = h.others ++ r;
      text = ap (λ (l : List ℕ). l ++ r) h.text;
      starts = range-digit h.first (omega (arith, h.low)) h.high;
      value = rw (ne_eqb _ _ n) (h.val r ∙ val-over m r k o);
      left = rw (ne_eqb _ _ n, z) (drop-append_seam h.others r);
      size = rw (ne_eqb _ _ n, z, h.text);
      not-zero = λ y. n;
    }
digits-by m r o false e =
    let k : m ≡ 0 = omega (arith, ltb-false 0 m e) in
    record {
      first = 48;
      rest = r;
      text = ap (λ (l : List ℕ). l ++ r) (ap decimal k ∙ decimal-zero);
      starts = refl;
      value = sym k;
      left = refl;
      size = rw (k, decimal-zero);
      not-zero = λ y. absurd (omega arith);
    }

pub digits : (m : ℕ) (r : List ℕ) → Over m r → Digits m r
digits m r o = digits-by m r o (ltb 0 m) refl
