-- Numbers in decimal: what is written is read back, and what is read was written so. Assumes nothing.
use Rattle.std.proofs.Common.{◌≡◌, refl, sym, ap, ◌∙◌, Bool, true, false, cond, List, [], ◌∷◌, ◌++◌, append_assoc, ℕ, zero, suc, ◌+◌, ◌*◌, ◌-◌, ◌/◌, ◌%◌, ◌<◌, ◌≤◌, arith, eqb, length, drop, length-append}
use borrow.Author.Tests.{lt-ltb, le-ltb, ne_eqb, eqb-true, eqb-false}
use Rattle.refusal.proofs.Cases.{less-or}
use Rattle.bencode_scalar.specs.Written.{decimal_in, decimal}
use Rattle.bencode_scalar.specs.Reading.{is_digit, digits_val, digits_len, num_val, num_len}
use Rattle.bencode_scalar.proofs.Decimal.{digit-range, range-digit}

pub dec-small : (f n : ℕ) → n < 10 → decimal_in (suc f) n ≡ (48 + n) ∷ []
unfolding decimal_in
dec-small f n h = rw (lt-ltb n 10 h)

dec-large : (f n : ℕ) → 10 ≤ n → decimal_in (suc f) n ≡ decimal_in f (n / 10) ++ ((48 + n % 10) ∷ [])
unfolding decimal_in
dec-large f n h = rw (le-ltb n 10 h)

dec-fuel : (f g n : ℕ) → n < f → n < g → decimal_in f n ≡ decimal_in g n
dec-fuel zero g n h k = absurd (omega arith)
dec-fuel (suc f) zero n h k = absurd (omega arith)
dec-fuel (suc f) (suc g) n h k =
    less-or n 10 (λ l. dec-small f n l ∙ sym (dec-small g n l))
    (λ l. dec-large f n l ∙ ap (λ (x : List ℕ). x ++ ((48 + n % 10) ∷ [])) (dec-fuel f g (n / 10) (omega arith) (omega arith)) ∙ sym (dec-large g n l))

-- one digit more
pub decimal_step : (a d : ℕ) → 1 ≤ a → d < 10 → decimal (a * 10 + d) ≡ decimal a ++ ((48 + d) ∷ [])
decimal_step a d h k =
    let q : (a * 10 + d) / 10 ≡ a = omega arith in
    let r : (a * 10 + d) % 10 ≡ d = omega arith in
    dec-large (a * 10 + d) (a * 10 + d) (omega arith)
    ∙ ap (λ (x : List ℕ). x ++ ((48 + (a * 10 + d) % 10) ∷ [])) (dec-fuel (a * 10 + d) (suc a) ((a * 10 + d) / 10) (omega arith) (omega arith))
    ∙ rw (q, r)

run_step : (b : ℕ) (t : List ℕ) (acc : ℕ) → 1 ≤ acc → ((a : ℕ) → 1 ≤ a → decimal a ++ t ≡ decimal (digits_val a t) ++ drop (digits_len t) t)
    → (x : Bool) → is_digit b ≡ x → decimal acc ++ b ∷ t ≡ decimal (digits_val acc (b ∷ t)) ++ drop (digits_len (b ∷ t)) (b ∷ t)
unfolding digits_val digits_len
run_step b t acc h ih true e =
    let r = digit-range b e in
    let w : 48 + (b - 48) ≡ b = omega arith in
    rw e (ap (λ (z : ℕ). decimal acc ++ z ∷ t) (sym w) ∙ sym (append_assoc (decimal acc) ((48 + (b - 48)) ∷ []) t)
    ∙ ap (λ (l : List ℕ). l ++ t) (sym (decimal_step acc (b - 48) h (omega arith)))
    ∙ ih (acc * 10 + (b - 48)) (omega arith))
run_step b t acc h ih false e = rw e

-- the digits that t begins with, after those of acc
pub decimal-run : (t : List ℕ) (acc : ℕ) → 1 ≤ acc → decimal acc ++ t ≡ decimal (digits_val acc t) ++ drop (digits_len t) t
unfolding digits_val digits_len
decimal-run [] acc h = refl
decimal-run (b ∷ t) acc h = run_step b t acc h (decimal-run t) (is_digit b) refl

pub digits_len-le : (t : List ℕ) → digits_len t ≤ length t
unfolding digits_len
digits_len-le [] = omega arith
digits_len-le (b ∷ t) = go (is_digit b) refl (digits_len-le t)
  where
    go : (x : Bool) → is_digit b ≡ x → digits_len t ≤ length t → cond (is_digit b) (suc (digits_len t)) 0 ≤ suc (length t)
    go true e h = rw e (omega arith)
    go false e h = rw e (omega arith)

-- A number that was read was written so.
pub record Number (b : ℕ) (t : List ℕ) : Type 0 where
  pub text : b ∷ t ≡ decimal (num_val b t) ++ drop (num_len b t) t
  pub fits : num_len b t ≤ length t

number_by : (b : ℕ) (t : List ℕ) → is_digit b ≡ true → (x : Bool) → eqb b 48 ≡ x
    → (b ∷ t ≡ decimal (cond x 0 (digits_val (b - 48) t)) ++ drop (cond x 0 (digits_len t)) t) × (cond x 0 (digits_len t) ≤ length t)
number_by b t d true e =
    let z : b ≡ 48 = eqb-true b 48 e in
    let y : 0 < 10 = omega arith in
    (rw (z, dec-small 0 0 y), omega arith)
number_by b t d false e =
    let r = digit-range b d in
    let z = eqb-false b 48 e in
    let w : 48 + (b - 48) ≡ b = omega arith in (
      ap (λ (q : ℕ). q ∷ t) (sym w)
          ∙ ap (λ (l : List ℕ). l ++ t) (sym (dec-small (b - 48) (b - 48) (omega arith)))
          ∙ decimal-run t (b - 48) (omega arith),
      digits_len-le t,
    )

pub number-sound : (b : ℕ) (t : List ℕ) → is_digit b ≡ true → Number b t
number-sound b t d = let r = number_by b t d (eqb b 48) refl in record { text = r.0; fits = r.1 }

pub val-ge : (t : List ℕ) (acc : ℕ) → acc ≤ digits_val acc t
unfolding digits_val
val-ge [] acc = omega arith
val-ge (b ∷ t) acc = go (is_digit b) refl (val-ge t (acc * 10 + (b - 48)))
  where
    go : (x : Bool) → is_digit b ≡ x → acc * 10 + (b - 48) ≤ digits_val (acc * 10 + (b - 48)) t → acc ≤ cond (is_digit b) (digits_val (acc * 10 + (b - 48)) t) acc
    go true e h = rw e (omega arith)
    go false e h = rw e (omega arith)

pub num_pos : (b : ℕ) (t : List ℕ) → is_digit b ≡ true → (b ≡ 48 → ⊥) → 1 ≤ num_val b t
num_pos b t d h =
    let r = digit-range b d in
    rw (ne_eqb b 48 h) (omega (arith, val-ge t (b - 48)))

-- the digits of a number that is not 0
pub record Shape (l : List ℕ) (m : ℕ) : Type 0 where
  pub first : ℕ
  pub others : List ℕ
  pub text : l ≡ first ∷ others
  pub low : 49 ≤ first
  pub high : first < 58
  pub val : (t : List ℕ) → digits_val (first - 48) (others ++ t) ≡ digits_val m t
  pub len : (t : List ℕ) → digits_len (others ++ t) ≡ length others + digits_len t

val-digit : (a d : ℕ) (t : List ℕ) → d < 10 → digits_val a ((48 + d) ∷ t) ≡ digits_val (a * 10 + d) t
unfolding digits_val
val-digit a d t h =
    let e : 48 + d - 48 ≡ d = omega arith in
    let r : is_digit (48 + d) ≡ true = range-digit (48 + d) (omega arith) (omega arith) in
    rw (r, e)

len-digit : (d : ℕ) (t : List ℕ) → d < 10 → digits_len ((48 + d) ∷ t) ≡ suc (digits_len t)
unfolding digits_len
len-digit d t h =
    let r : is_digit (48 + d) ≡ true = range-digit (48 + d) (omega arith) (omega arith) in
    rw r

shape-small : (f m : ℕ) → 1 ≤ m → m < 10 → Shape (decimal_in (suc f) m) m
shape-small f m h k =
    let e : 48 + m - 48 ≡ m = omega arith in
    record { first = 48 + m; others = []; text = dec-small f m k; low = omega arith; high = omega arith; val = λ t. rw e; len = λ t. omega arith }

shape-large : (f m : ℕ) → 10 ≤ m → Shape (decimal_in f (m / 10)) (m / 10) → Shape (decimal_in (suc f) m) m
shape-large f m h i =
    let e : m / 10 * 10 + m % 10 ≡ m = omega arith in
    let k : m % 10 < 10 = omega arith in
    record {
      first = i.first;
      others = i.others ++ ((48 + m % 10) ∷ []);
      text = dec-large f m h ∙ ap (λ (l : List ℕ). l ++ ((48 + m % 10) ∷ [])) i.text;
      low = i.low;
      high = i.high;
      val = λ t. ap (digits_val (i.first - 48)) (append_assoc i.others ((48 + m % 10) ∷ []) t) ∙ i.val ((48 + m % 10) ∷ t) ∙ val-digit (m / 10) (m % 10) t k ∙ ap (λ (z : ℕ). digits_val z t) e;
      len = λ t. ap digits_len (append_assoc i.others ((48 + m % 10) ∷ []) t)
          ∙ omega (arith, i.len ((48 + m % 10) ∷ t), len-digit (m % 10) t k, length-append i.others ((48 + m % 10) ∷ []));
    }

shape-in : (f m : ℕ) → 1 ≤ m → m < f → Shape (decimal_in f m) m
shape-in zero m h k = absurd (omega arith)
shape-in (suc f) m h k = less-or m 10 (λ l. shape-small f m h l) (λ l. shape-large f m l (shape-in f (m / 10) (omega arith) (omega arith)))

pub shape : (m : ℕ) → 1 ≤ m → Shape (decimal m) m
shape m h = shape-in (suc m) m h (omega arith)

pub decimal-zero : decimal 0 ≡ 48 ∷ []
decimal-zero = dec-small 0 0 (omega arith)
