-- Hex digits and other kinds of bytes, by ranges. Assumes nothing.
use mathlib.Core.Path.{◌≡◌, refl, sym, ap, ◌∙◌, subst}
use mathlib.Core.Logic.{◌⊎◌, inl, inr}
use mathlib.Core.Bool.{Bool, true, false, cond, ◌&&◌, not}
use Prim.Native.Nat.{ℕ, zero, suc, ◌+◌, ◌*◌, ◌-◌, ◌/◌, ◌%◌, ◌^◌, ◌<◌, ◌≤◌}
use native.Mathlib.Omega.{arith}
use borrow.Author.Tests.{ltb-true, leb-true, ne_eqb, not-true, lt-ltb, le-ltb, le-leb, lt-leb}
use lib.Bits.{bit_and}
use lib.Dec.{leb, eqb}
use Rattle.refusal.proofs.Cases.{less-or, same_or, both}
use Rattle.bencode_writer.specs.Escaped.{hex_digit, small_digit}
use Rattle.links.specs.Link.{between, letter_or_digit, name_byte, plain_byte, Hex}
use Rattle.links.specs.Reading.{nibble, is_hex}
use Rattle.links.specs.Writing.{unreserved}

-- ---- a range

module _ (a c b : ℕ) where
  pub inside : a ≤ b → b ≤ c → between a c b ≡ true
  inside l h = rw (le-leb a b l, le-leb b c h)

  pub under : b < a → between a c b ≡ false
  under h = rw (lt-leb a b h)

  pub over : c < b → between a c b ≡ false
  over h = less-or b a under (λ l. rw (le-leb a b l, lt-leb b c h))

  pub within : between a c b ≡ true → (a ≤ b) × (b ≤ c)
  within e = let x = both (leb a b) (leb b c) e in (leb-true a b x.0, leb-true b c x.1)

-- ---- what a digit counts

pub of-decimal : (b : ℕ) → 48 ≤ b → b ≤ 57 → b - 48 ≡ nibble b
of-decimal b l h = rw (inside 48 57 b l h)

pub of-capital : (b : ℕ) → 65 ≤ b → b ≤ 70 → b - 55 ≡ nibble b
of-capital b l h = rw (over 48 57 b (omega arith), inside 65 70 b l h)

pub of-small : (b : ℕ) → 97 ≤ b → b ≤ 102 → b - 87 ≡ nibble b
of-small b l h = rw (over 48 57 b (omega arith), over 65 70 b (omega arith), inside 97 102 b l h)

-- the digit of x counts x
hex-counts : (c x : ℕ) → Hex c x → nibble c ≡ x
hex-counts c x (l, inl e) =
    less-or x 10
    (λ h. let f : c ≡ 48 + x = e ∙ rw (lt-ltb x 10 h) in sym (of-decimal c (omega arith) (omega arith)) ∙ omega arith)
    (λ h. let f : c ≡ 55 + x = e ∙ rw (le-ltb x 10 h) in sym (of-capital c (omega arith) (omega arith)) ∙ omega arith)
hex-counts c x (l, inr e) =
    less-or x 10
    (λ h. let f : c ≡ 48 + x = e ∙ rw (lt-ltb x 10 h) in sym (of-decimal c (omega arith) (omega arith)) ∙ omega arith)
    (λ h. let f : c ≡ 87 + x = e ∙ rw (le-ltb x 10 h) in sym (of-small c (omega arith) (omega arith)) ∙ omega arith)

pub hex-nibble : (c x : ℕ) → Hex c x → (is_hex c ≡ true) × (nibble c ≡ x)
hex-nibble c x h = let e = hex-counts c x h in (lt-ltb (nibble c) 16 (omega (arith, h.0)), e)

-- a byte that counts below 16 is a digit
pub nibble-hex : (c : ℕ) → is_hex c ≡ true → Hex c (nibble c)
nibble-hex c e = (ltb-true (nibble c) 16 e, go (between 48 57 c) refl)
  where
    small : (t : Bool) → between 97 102 c ≡ t → between 48 57 c ≡ false → between 65 70 c ≡ false → (c ≡ hex_digit (nibble c)) ⊎ (c ≡ small_digit (nibble c))
    small true f g k =
        let w = within 97 102 c f in
        let n = of-small c w.0 w.1 in
        inr (subst (λ (x : ℕ). c ≡ small_digit x) n (rw (le-ltb (c - 87) 10 (omega (arith, w))) (omega (arith, w))))
    small false f g k = let z : nibble c ≡ 16 = rw (g, k, f) in absurd (omega (arith, z, ltb-true (nibble c) 16 e))

    capital : (t : Bool) → between 65 70 c ≡ t → between 48 57 c ≡ false → (c ≡ hex_digit (nibble c)) ⊎ (c ≡ small_digit (nibble c))
    capital true f g =
        let w = within 65 70 c f in
        let n = of-capital c w.0 w.1 in
        inl (subst (λ (x : ℕ). c ≡ hex_digit x) n (rw (le-ltb (c - 55) 10 (omega (arith, w))) (omega (arith, w))))
    capital false f g = small (between 97 102 c) refl g f

    go : (t : Bool) → between 48 57 c ≡ t → (c ≡ hex_digit (nibble c)) ⊎ (c ≡ small_digit (nibble c))
    go true f =
        let w = within 48 57 c f in
        let n = of-decimal c w.0 w.1 in
        inl (subst (λ (x : ℕ). c ≡ hex_digit x) n (rw (lt-ltb (c - 48) 10 (omega (arith, w))) (omega (arith, w))))
    go false f = capital (between 65 70 c) refl f

-- ---- letters and digits, names, values, and what is written as it is

module _ (b : ℕ) where
  pub below-digits : b < 48 → false ≡ letter_or_digit b
  below-digits h = rw (under 65 90 b (omega arith), under 97 122 b (omega arith), under 48 57 b h)

  pub a-digit : 48 ≤ b → b ≤ 57 → true ≡ letter_or_digit b
  a-digit l h = rw (under 65 90 b (omega arith), under 97 122 b (omega arith), inside 48 57 b l h)

  pub below-capitals : 57 < b → b < 65 → false ≡ letter_or_digit b
  below-capitals l h = rw (under 65 90 b h, under 97 122 b (omega arith), over 48 57 b l)

  pub a-capital : 65 ≤ b → b ≤ 90 → true ≡ letter_or_digit b
  a-capital l h = rw (inside 65 90 b l h)

  pub below-letters : 90 < b → b < 97 → false ≡ letter_or_digit b
  below-letters l h = rw (over 65 90 b l, under 97 122 b h, over 48 57 b (omega arith))

  pub a-letter : 97 ≤ b → leb b 122 ≡ letter_or_digit b
  a-letter l =
      less-or 122 b
      (λ h. lt-leb b 122 h ∙ rw (over 65 90 b (omega arith), over 97 122 b h, over 48 57 b (omega arith)))
      (λ h. le-leb b 122 h ∙ rw (over 65 90 b (omega arith), inside 97 122 b l h))

  pub in-name : letter_or_digit b ≡ true → true ≡ name_byte b
  in-name e = rw e

  pub dot-or-none : letter_or_digit b ≡ false → eqb b 46 ≡ name_byte b
  dot-or-none e = rw e

  pub above-plain : 126 < b → false ≡ plain_byte b
  above-plain h = rw (over 33 126 b h)

  pub most-plain : 38 < b → b ≤ 126 → true ≡ plain_byte b
  most-plain l h = rw (inside 33 126 b (omega arith) h, ne_eqb b 35 (λ e. omega arith), ne_eqb b 37 (λ e. omega arith), ne_eqb b 38 (λ e. omega arith))

  pub below_plain : b < 33 → false ≡ plain_byte b
  below_plain h = rw (under 33 126 b h)

  module _ (l : 33 ≤ b) (h : b ≤ 38) where
    pub plain-hash : eqb b 35 ≡ true → false ≡ plain_byte b
    plain-hash e = rw (inside 33 126 b l (omega arith), e)

    pub plain-percent : eqb b 35 ≡ false → eqb b 37 ≡ true → false ≡ plain_byte b
    plain-percent e f = rw (inside 33 126 b l (omega arith), e, f)

    pub plain-and : eqb b 35 ≡ false → eqb b 37 ≡ false → not (eqb b 38) ≡ plain_byte b
    plain-and e f = rw (inside 33 126 b l (omega arith), e, f)

  pub kept-letter : letter_or_digit b ≡ true → true ≡ unreserved b
  kept-letter e = rw e

  module _ (n : letter_or_digit b ≡ false) where
    pub kept-minus : eqb b 45 ≡ true → true ≡ unreserved b
    kept-minus e = rw (n, e)

    pub kept-dot : eqb b 45 ≡ false → eqb b 46 ≡ true → true ≡ unreserved b
    kept-dot e f = rw (n, e, f)

    pub kept_line : eqb b 45 ≡ false → eqb b 46 ≡ false → eqb b 95 ≡ true → true ≡ unreserved b
    kept_line e f g = rw (n, e, f, g)

    pub kept-tilde : eqb b 45 ≡ false → eqb b 46 ≡ false → eqb b 95 ≡ false → eqb b 126 ≡ unreserved b
    kept-tilde e f g = rw (n, e, f, g)

-- ---- a digit by a bit of its own

-- below "0" and above "f" there is none
pub hex-below : (b : ℕ) → b < 48 → false ≡ is_hex b
hex-below b h = rw (under 48 57 b h, under 65 70 b (omega arith), under 97 102 b (omega arith))

pub hex-above : (b : ℕ) → 102 < b → false ≡ is_hex b
hex-above b h = rw (over 48 57 b (omega arith), over 65 70 b (omega arith), over 97 102 b h)

-- 0 for a digit, and 1 for another byte
abbrev Counts : ℕ → ℕ → Type 0
Counts b r = (r ≡ cond (is_hex b) 0 1) × (r ≤ 1)

-- between and at the digits and letters
module _ (b : ℕ) where
  a-hex : nibble b < 16 → Counts b 0
  a-hex h = (rw (lt-ltb (nibble b) 16 h), omega arith)

  no-hex : 16 ≡ nibble b → Counts b 1
  no-hex e = (rw (le-ltb (nibble b) 16 (omega (arith, e))), omega arith)

  pub other-below : b < 48 → Counts b 1
  other-below h = no-hex (rw (under 48 57 b h, under 65 70 b (omega arith), under 97 102 b (omega arith)))

  pub hex-decimal : 48 ≤ b → b ≤ 57 → Counts b 0
  hex-decimal l h = a-hex (omega (arith, of-decimal b l h))

  pub other-middle : 57 < b → b < 65 → Counts b 1
  other-middle l h = no-hex (rw (over 48 57 b l, under 65 70 b h, under 97 102 b (omega arith)))

  pub hex-capital : 65 ≤ b → b ≤ 70 → Counts b 0
  hex-capital l h = a-hex (omega (arith, of-capital b l h))

  pub other-high : 70 < b → b < 97 → Counts b 1
  other-high l h = no-hex (rw (over 48 57 b (omega arith), over 65 70 b l, under 97 102 b h))

  pub hex-small : 97 ≤ b → b ≤ 102 → Counts b 0
  hex-small l h = a-hex (omega (arith, of-small b l h))

  pub other-above : 102 < b → Counts b 1
  other-above h = no-hex (rw (over 48 57 b (omega arith), over 65 70 b (omega arith), over 97 102 b h))

-- what counts 0 is one
pub counts-none : (t : Bool) {r : ℕ} → r ≡ cond t 0 1 → r ≡ 0 → t ≡ true
counts-none true e z = refl
counts-none false e z = absurd (omega (arith, e, z))

-- a bit for each byte from "0" on
abbrev bit : ℕ → Bool
bit k = eqb (bit_and (35465847073801215 / 2 ^ k) 1) 1

abbrev right : ℕ → Bool
right k = cond (is_hex (48 + k)) (bit k) (not (bit k))

all_below : ℕ → (ℕ → Bool) → Bool
all_below zero f = true
all_below (suc n) f = f n && all_below n f

each_below : (n : ℕ) (f : ℕ → Bool) → all_below n f ≡ true → (k : ℕ) → k < n → f k ≡ true
unfolding all_below
each_below zero f e k h = absurd (omega (arith, h))
each_below (suc n) f e k h =
    let x = both (f n) (all_below n f) e in
    same_or k n (λ i. ap f i ∙ x.0) (λ i. each_below n f x.1 k (omega (arith, h, i)))

all_right : all_below 55 right ≡ true
unfolding all_below
all_right = refl

pub hex-bit : (b : ℕ) → 48 ≤ b → b ≤ 102 → eqb (bit_and (35465847073801215 / 2 ^ (b - 48)) 1) 1 ≡ is_hex b
hex-bit b l h = go (is_hex (48 + (b - 48))) refl (each_below 55 right all_right (b - 48) (omega arith))
  where
    same : 48 + (b - 48) ≡ b
    same = omega arith

    go : (t : Bool) → is_hex (48 + (b - 48)) ≡ t → cond t (bit (b - 48)) (not (bit (b - 48))) ≡ true → bit (b - 48) ≡ is_hex b
    go true e f = f ∙ sym e ∙ ap is_hex same
    go false e f = not-true (bit (b - 48)) f ∙ sym e ∙ ap is_hex same

-- ---- what a digit counts, by its two parts

pub value_of : (b : ℕ) → nibble b < 16 → b % 16 + 9 * (b / 64) ≡ nibble b
value_of b h = go (between 48 57 b) refl
  where
    small : (t : Bool) → between 97 102 b ≡ t → between 48 57 b ≡ false → between 65 70 b ≡ false → b % 16 + 9 * (b / 64) ≡ nibble b
    small true f g k = let w = within 97 102 b f in omega (arith, w, of-small b w.0 w.1)
    small false f g k = let z : nibble b ≡ 16 = rw (g, k, f) in absurd (omega (arith, z, h))

    capital : (t : Bool) → between 65 70 b ≡ t → between 48 57 b ≡ false → b % 16 + 9 * (b / 64) ≡ nibble b
    capital true f g = let w = within 65 70 b f in omega (arith, w, of-capital b w.0 w.1)
    capital false f g = small (between 97 102 b) refl g f

    go : (t : Bool) → between 48 57 b ≡ t → b % 16 + 9 * (b / 64) ≡ nibble b
    go true f = let w = within 48 57 b f in omega (arith, w, of-decimal b w.0 w.1)
    go false f = capital (between 65 70 b) refl f
