-- Bytes with escapes, and as hex digits alone: digit by digit, byte by byte, and how long they can be. Assumes nothing.
use Rattle.std.proofs.Common.{◌≡◌, refl, sym, ap, ◌∙◌, Bool, true, false, List, [], ◌∷◌, ◌++◌, ℕ, ◌+◌, ◌*◌, ◌/◌, ◌%◌, ◌<◌, ◌≤◌, arith, add-one, length, get_or, drop, length-append, drop_of_length-le}
use lib.Seq.{drop-cons}
use Rattle.bencode_writer.specs.Escaped.{percent, escaped_byte, escaped_by, small_digit, small_hex}

-- by which bytes are kept plain
module _ (plain : ℕ → Bool) where
  pub escape-plain : (b : ℕ) → plain b ≡ true → b ∷ [] ≡ escaped_byte plain b
  escape-plain b h = rw h

  pub escape-other : (b : ℕ) → plain b ≡ false → percent b ≡ escaped_byte plain b
  escape-other b h = rw h

  module _ (s : List ℕ) (i : ℕ) where
    pub escaped-more : i < length s → escaped_by plain (drop i s) ≡ escaped_byte plain (get_or s i 0) ++ escaped_by plain (drop (i + 1) s)
    unfolding escaped_by
    escaped-more h = ap (escaped_by plain) (drop-cons s i 0 h ∙ ap (λ (k : ℕ). get_or s i 0 ∷ drop k s) (sym (add-one i)))

    pub escaped-none : length s ≤ i → escaped_by plain (drop i s) ≡ []
    unfolding escaped_by
    escaped-none h = ap (escaped_by plain) (drop_of_length-le s h)

  -- at most three bytes for one
  byte-most : (b : ℕ) (t : Bool) → plain b ≡ t → length (escaped_byte plain b) ≤ 3
  byte-most b true e = omega (arith, ap length (escape-plain b e))
  byte-most b false e = omega (arith, ap length (escape-other b e))

  pub escaped-most : (s : List ℕ) → length (escaped_by plain s) ≤ 3 * length s
  unfolding escaped_by
  escaped-most [] = omega arith
  escaped-most (b ∷ s) = omega (arith, length-append (escaped_byte plain b) (escaped_by plain s), byte-most b (plain b) refl, escaped-most s)

-- ---- as hex digits alone

module _ (s : List ℕ) (i : ℕ) where
  pub hex-more : i < length s → small_hex (drop i s) ≡ (small_digit (get_or s i 0 / 16) ∷ small_digit (get_or s i 0 % 16) ∷ []) ++ small_hex (drop (i + 1) s)
  unfolding small_hex
  hex-more h = ap small_hex (drop-cons s i 0 h ∙ ap (λ (k : ℕ). get_or s i 0 ∷ drop k s) (sym (add-one i)))

  pub hex-none : length s ≤ i → small_hex (drop i s) ≡ []
  unfolding small_hex
  hex-none h = ap small_hex (drop_of_length-le s h)

pub hex-length : (s : List ℕ) → length (small_hex s) ≡ 2 * length s
unfolding small_hex
hex-length [] = omega arith
hex-length (b ∷ s) = omega (arith, hex-length s)

-- they fit where two bytes for each do
module _ (s : List ℕ) (at : ℕ) {l : ℕ} where
  pub hex-room : at + 2 * length s ≤ l → at + length (small_hex s) ≤ l
  hex-room h = omega (arith, h, hex-length s)

  pub hex-over : l < at + 2 * length s → l < at + length (small_hex s)
  hex-over h = omega (arith, h, hex-length s)
