-- When a text is refused by 1, 2, 3, 5, 6 or 7, and where: the causes in document 01's words, over what is written before the fault; 8 is its length alone. Assumes nothing: these are definitions.
-- Throughout, l is what is left of the text, p its place, n how many values have begun before it, and d how many more levels of lists and dictionaries may open.
use Rattle.std.specs.Prelude.{◌≡◌, ◌⊎◌, true, false, List, [], ◌∷◌, ◌++◌, ℕ, suc, ◌+◌, ◌<◌, ◌≤◌, ℤ, pos, negsuc, length}
use Rattle.refusal.specs.Limits.{most_values, most_levels}
use Rattle.bencode_scalar.specs.Written.{decimal, written_string, signed}
use Rattle.bencode_scalar.specs.Reading.{is_digit, more}
use Rattle.bencode.specs.Value.{Value, encode, count, Keeps, Prev, start, last, follows}
use Rattle.bencode.specs.Decode.{kind_of, other, begun, closes}

-- what is due at a place: a value; an item of a list, or its e; a key after the one before, or the dictionary's e
pub data Due : Type 0 where
  value : Due
  item : Due
  key : Prev → Due

-- reading s from left to right comes to a place with no fault before it: whole items and entries that keep the rules, in lists and dictionaries that are open
pub data Comes (s : List ℕ) : Due → List ℕ → ℕ → ℕ → ℕ → Type 0 where
  top : Comes s value s 0 0 most_levels
  an_item : {l : List ℕ} {p n d : ℕ} → Comes s item l p n d → closes l ≡ false → Comes s value l p n d
  in_list : {l : List ℕ} {p n d : ℕ} → Comes s value (108 ∷ l) p n (suc d) → n < most_values → Comes s item l (p + 1) (n + 1) d
  past-item : {l : List ℕ} {p n d : ℕ} (v : Value) → Comes s item (encode v ++ l) p n d → Keeps v d → n + count v ≤ most_values
      → Comes s item l (p + length (encode v)) (n + count v) d
  in-dictionary : {l : List ℕ} {p n d : ℕ} → Comes s value (100 ∷ l) p n (suc d) → n < most_values → Comes s (key start) l (p + 1) (n + 1) d
  past-key : {l : List ℕ} {p n d : ℕ} {before : Prev} (k : List ℕ) → Comes s (key before) (written_string k ++ l) p n d → follows before k ≡ true → n < most_values
      → Comes s value l (p + length (written_string k)) (n + 1) d
  past-entry : {l : List ℕ} {p n d : ℕ} {before : Prev} (k : List ℕ) (v : Value) → Comes s (key before) (written_string k ++ (encode v ++ l)) p n d → follows before k ≡ true → Keeps v d → n + 1 + count v ≤ most_values
      → Comes s (key (last k)) l (p + length (written_string k) + length (encode v)) (n + 1 + count v) d

-- a value or a key may begin at a place: it is due there, and its first byte can begin one
abbrev pub Begins : Due → List ℕ → Type 0
Begins value [] = ⊥
Begins value (b ∷ t) = begun (kind_of b) ≡ true
Begins item l = ⊥
Begins (key before) [] = ⊥
Begins (key before) (b ∷ t) = is_digit b ≡ true

-- an integer without its sign
abbrev pub size : ℤ → ℕ
size (pos m) = m
size (negsuc m) = suc m

-- the text ends within a string; within an integer
pub data StringEnds : List ℕ → Type 0 where
  in-length : (m : ℕ) → StringEnds (decimal m)
  in_bytes : (m : ℕ) (bs : List ℕ) → length bs < m → StringEnds (decimal m ++ 58 ∷ bs)

pub data IntegerEnds : List ℕ → Type 0 where
  after-i : IntegerEnds (105 ∷ [])
  after_minus : IntegerEnds (105 ∷ 45 ∷ [])
  in-digits : (z : ℤ) → IntegerEnds (105 ∷ signed z)

-- b cannot stand after w, with which a string begins; with which an integer begins
pub data StringStops : List ℕ → ℕ → Type 0 where
  in-length : (m b : ℕ) → more m b ≡ false → (b ≡ 58 → ⊥) → StringStops (decimal m) b

pub data IntegerStops : List ℕ → ℕ → Type 0 where
  after-i : (b : ℕ) → is_digit b ≡ false → (b ≡ 45 → ⊥) → IntegerStops (105 ∷ []) b
  after_minus : (b : ℕ) → (49 ≤ b → b < 58 → ⊥) → IntegerStops (105 ∷ 45 ∷ []) b
  in-digits : (z : ℤ) (b : ℕ) → more (size z) b ≡ false → (b ≡ 101 → ⊥) → IntegerStops (105 ∷ signed z) b

abbrev pub Ends : Due → List ℕ → Type 0
Ends value l = StringEnds l ⊎ IntegerEnds l
Ends item l = ⊥
Ends (key before) l = StringEnds l

abbrev pub Stops : Due → List ℕ → ℕ → Type 0
Stops value w b = StringStops w b ⊎ IntegerStops w b
Stops item w b = ⊥
Stops (key before) w b = StringStops w b

-- 1: the text ends where a byte is needed, or a string's length exceeds the bytes left after its colon; place: the text's length
pub data Cut (s : List ℕ) : ℕ → Type 0 where
  at_once : {w : Due} {p n d : ℕ} → Comes s w [] p n d → Cut s (length s)
  within : {w : Due} {l : List ℕ} {p n d : ℕ} → Comes s w l p n d → n < most_values → Ends w l → Cut s (length s)

-- 2: a byte that cannot stand there; its offset
pub data Byte (s : List ℕ) : ℕ → Type 0 where
  no_value : {b : ℕ} {t : List ℕ} {p n d : ℕ} → Comes s value (b ∷ t) p n d → kind_of b ≡ other → Byte s p
  no_key : {before : Prev} {b : ℕ} {t : List ℕ} {p n d : ℕ} → Comes s (key before) (b ∷ t) p n d → is_digit b ≡ false → (b ≡ 101 → ⊥) → Byte s p
  within : {due : Due} {p n d : ℕ} (w : List ℕ) (b : ℕ) (t : List ℕ) → Comes s due (w ++ b ∷ t) p n d → n < most_values → Stops due w b → Byte s (p + length w)

-- 3: a key not greater than the one before; offset of its first digit
pub data Order (s : List ℕ) : ℕ → Type 0 where
  not-greater : {before : Prev} {p n d : ℕ} (k l : List ℕ) → Comes s (key before) (written_string k ++ l) p n d → n < most_values → follows before k ≡ false → Order s p

-- 5: list or dictionary at level 33; its offset
pub data Deep (s : List ℕ) : ℕ → Type 0 where
  level : {b : ℕ} {l : List ℕ} {p n : ℕ} → Comes s value (b ∷ l) p n 0 → n < most_values → (b ≡ 108) ⊎ (b ≡ 100) → Deep s p

-- 6: value number 16,385 begins; its offset
pub data Many (s : List ℕ) : ℕ → Type 0 where
  begins : {w : Due} {l : List ℕ} {p n d : ℕ} → Comes s w l p n d → most_values ≤ n → Begins w l → Many s p

-- 7: bytes after the value; the first
pub data After (s : List ℕ) : ℕ → Type 0 where
  bytes : {l : List ℕ} (v : Value) → s ≡ encode v ++ l → Keeps v most_levels → count v ≤ most_values → (l ≡ [] → ⊥) → After s (length (encode v))
