-- Bytes with escapes, as listings and links have them: a byte that is not kept plain is % and two hex digits; and bytes as hex digits alone. Assumes nothing: these are definitions.
use Rattle.std.specs.Prelude.{Bool, cond, List, [], ◌∷◌, ◌++◌, ℕ, ◌+◌, ◌/◌, ◌%◌, ltb}

-- a hex digit, capital from ten on
abbrev pub hex_digit : ℕ → ℕ
hex_digit n = cond (ltb n 10) (48 + n) (55 + n)

-- a byte as % and two hex digits
abbrev pub percent : ℕ → List ℕ
percent b = 37 ∷ hex_digit (b / 16) ∷ hex_digit (b % 16) ∷ []

-- a byte, by which of them are kept plain
abbrev pub escaped_byte : (ℕ → Bool) → ℕ → List ℕ
escaped_byte plain b = cond (plain b) (b ∷ []) (percent b)

-- bytes one after the other
unfoldable pub escaped_by : (ℕ → Bool) → List ℕ → List ℕ
escaped_by plain [] = []
escaped_by plain (b ∷ bs) = escaped_byte plain b ++ escaped_by plain bs

-- a hex digit, small from ten on
abbrev pub small_digit : ℕ → ℕ
small_digit n = cond (ltb n 10) (48 + n) (87 + n)

-- two small hex digits for each byte
unfoldable pub small_hex : List ℕ → List ℕ
small_hex [] = []
small_hex (b ∷ bs) = small_digit (b / 16) ∷ small_digit (b % 16) ∷ small_hex bs
