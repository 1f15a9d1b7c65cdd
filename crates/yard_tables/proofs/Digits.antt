-- Digits of a byte as the code reads and sets them. Assumes nothing.
use mathlib.Core.Path.{◌≡◌, refl, sym, ap, ap₂, ◌∙◌}
use mathlib.Core.Bool.{Bool, true, false, not, ◌&&◌, ◌||◌}
use Prim.Native.Nat.{ℕ, zero, suc, ◌+◌, ◌-◌, ◌*◌, ◌/◌, ◌%◌, ◌^◌, ◌≤◌, ◌<◌, max}
use native.Mathlib.Nat.{mul-le-mul_right, suc-mul, pow-suc, pow-succ', div-one, div-div-eq-div-mul}
use native.Mathlib.Omega.{arith}
use lib.Bits.{bit_or, or_step, or_zero_r, bit_and, and_mask}
use borrow.Author.Tests.{eqb-true}
use lib.Dec.{eqb, eqb-zero-suc, eqb-suc-zero, eqb-suc-suc}
use Rattle.yard_tables.specs.Rows.{digit}

max-bit : (x y : ℕ) → x < 2 → y < 2 → eqb (max x y) 1 ≡ (eqb x 1 || eqb y 1)
max-bit zero zero h l = refl
max-bit zero (suc zero) h l = refl
max-bit (suc zero) zero h l = refl
max-bit (suc zero) (suc zero) h l = refl
max-bit zero (suc (suc y)) h l = absurd (omega arith)
max-bit (suc zero) (suc (suc y)) h l = absurd (omega arith)
max-bit (suc (suc x)) y h l = absurd (omega arith)

or-low : (a b : ℕ) → bit_or a b % 2 ≡ max (a % 2) (b % 2)
or-low a b = omega (arith, or_step a b)

or-half : (a b : ℕ) → bit_or a b / 2 ≡ bit_or (a / 2) (b / 2)
or-half a b = omega (arith, or_step a b)

pub digit_or : (k a b : ℕ) → digit k (bit_or a b) ≡ (digit k a || digit k b)
digit_or zero a b = rw (or-low a b) (max-bit (a % 2) (b % 2) (omega arith) (omega arith))
digit_or (suc k) a b = rw (or-half a b) (digit_or k (a / 2) (b / 2))

pub digit-zero : (k : ℕ) → digit k 0 ≡ false
digit-zero zero = refl
digit-zero (suc k) = digit-zero k

pub digit-pow : (k m : ℕ) → digit k (2 ^ m) ≡ eqb k m
digit-pow zero zero = refl
digit-pow zero (suc m) = let e : 2 ^ suc m % 2 ≡ 0 = rw pow-suc (omega arith) in rw (e, eqb-zero-suc m)
digit-pow (suc k) zero = digit-zero k ∙ sym (eqb-suc-zero k)
digit-pow (suc k) (suc m) = let e : 2 ^ suc m / 2 ≡ 2 ^ m = rw pow-suc (omega arith) in rw (e, eqb-suc-suc k m) (digit-pow k m)

-- read by a shift
pub digit_shift : (k b : ℕ) → eqb (bit_and (b / 2 ^ k) 1) 1 ≡ digit k b
digit_shift zero b = rw (div-one b, and_mask b 1)
digit_shift (suc k) b =
    let e : b / 2 ^ suc k ≡ b / 2 / 2 ^ k = rw (pow-succ', ← div-div-eq-div-mul b 2 (2 ^ k)) in rw e (digit_shift k (b / 2))

-- and set by one
pub mask_is : (k : ℕ) → k < 8 → 128 / 2 ^ k ≡ 2 ^ (7 - k)
mask_is zero l = refl
mask_is (suc zero) l = refl
mask_is (suc (suc zero)) l = refl
mask_is (suc (suc (suc zero))) l = refl
mask_is (suc (suc (suc (suc zero)))) l = refl
mask_is (suc (suc (suc (suc (suc zero))))) l = refl
mask_is (suc (suc (suc (suc (suc (suc zero)))))) l = refl
mask_is (suc (suc (suc (suc (suc (suc (suc zero))))))) l = refl
mask_is (suc (suc (suc (suc (suc (suc (suc (suc k)))))))) l = absurd (omega arith)

-- a byte that brings nothing new brings none of its digits
said-before : (a b : Bool) → (a || b) ≡ a → (b && not a) ≡ false
said-before true true e = refl
said-before true false e = refl
said-before false true e = e
said-before false false e = refl

pub none-new : (k had says : ℕ) → bit_or had says ≡ had → (digit k says && not (digit k had)) ≡ false
none-new k had says e = said-before (digit k had) (digit k says) (sym (digit_or k had says) ∙ ap (digit k) e)

-- row i lies in the rows, and so does a byte of it
pub row_in : (i n w : ℕ) → i < n → i * w + w ≤ n * w
row_in i n w l = omega (arith, mul-le-mul_right w l, suc-mul i w)

pub row-byte : (i n P p : ℕ) → i < n → p < P → i * ((P + 7) / 8) + p / 8 < n * ((P + 7) / 8)
row-byte i n P p l m = omega (arith, row_in i n ((P + 7) / 8) l)

-- a digit that stands already
pub or-had : (k b : ℕ) → digit k b ≡ true → bit_or b (2 ^ k) ≡ b
or-had zero b e =
    let m : b % 2 ≡ 1 = eqb-true (b % 2) 1 e in
    let z : bit_or (b / 2) 0 ≡ b / 2 = or_zero_r (b / 2) in
    or_step b 1 ∙ ap (λ (x : ℕ). x * 2 + max (b % 2) 1) z ∙ omega arith
or-had (suc k) b e =
    let f : 2 ^ suc k / 2 ≡ 2 ^ k = rw pow-suc (omega arith) in
    let g : 2 ^ suc k % 2 ≡ 0 = rw pow-suc (omega arith) in
    let z : bit_or (b / 2) (2 ^ k) ≡ b / 2 = or-had k (b / 2) e in
    or_step b (2 ^ suc k) ∙ ap₂ (λ (x y : ℕ). bit_or (b / 2) x * 2 + max (b % 2) y) f g ∙ ap (λ (x : ℕ). x * 2 + max (b % 2) 0) z ∙ omega arith
