-- The bytes of a magnet link by document 02: of names, of values and what they spell, of a hash; and what a link can say. What a link is: links_laws/specs/Form.antt. Assumes nothing: these are definitions.
use Rattle.std.specs.Prelude.{◌≡◌, ◌⊎◌, Bool, true, ◌&&◌, ◌||◌, not, List, [], ◌∷◌, ℕ, ◌+◌, ◌*◌, ◌<◌, leb, eqb}
use Rattle.bencode_writer.specs.Escaped.{hex_digit, small_digit}

-- ---- bytes

abbrev pub between : ℕ → ℕ → ℕ → Bool
between a c b = leb a b && leb b c

-- an ASCII letter or digit
abbrev pub letter_or_digit : ℕ → Bool
letter_or_digit b = between 65 90 b || (between 97 122 b || between 48 57 b)

-- of a name: these, and "."
abbrev pub name_byte : ℕ → Bool
name_byte b = letter_or_digit b || eqb b 46

-- of a value, where it stands for itself: 33 to 126, but not "#", "%" and "&"
abbrev pub plain_byte : ℕ → Bool
plain_byte b = between 33 126 b && not (eqb b 35 || (eqb b 37 || eqb b 38))

-- c is the hex digit of x, in either case
abbrev pub Hex : ℕ → ℕ → Type 0
Hex c x = (x < 16) × ((c ≡ hex_digit x) ⊎ (c ≡ small_digit x))

-- ---- texts of bytes

-- two hex digits for each byte
pub data HexText : List ℕ → List ℕ → Type 0 where
  no_byte : HexText [] []
  a_byte : (h l x y : ℕ) (w bs : List ℕ) → Hex h x → Hex l y → HexText w bs → HexText (h ∷ l ∷ w) ((16 * x + y) ∷ bs)

-- a byte that may stand for itself, or "%" and two hex digits for any byte
pub data Spells : List ℕ → List ℕ → Type 0 where
  nothing : Spells [] []
  plain : (b : ℕ) (w bs : List ℕ) → plain_byte b ≡ true → Spells w bs → Spells (b ∷ w) (b ∷ bs)
  escape : (h l x y : ℕ) (w bs : List ℕ) → Hex h x → Hex l y → Spells w bs → Spells (37 ∷ h ∷ l ∷ w) ((16 * x + y) ∷ bs)

-- bytes of a name
pub data NameBytes : List ℕ → Type 0 where
  no_more : NameBytes []
  one_more : (b : ℕ) (k : List ℕ) → name_byte b ≡ true → NameBytes k → NameBytes (b ∷ k)

-- ---- what is said

-- what a link says of a thing: nothing, or bytes, of which there may be none
pub data Said : Type 0 where
  absent : Said
  said : List ℕ → Said

-- what a link says: an info hash, and perhaps a name and a tracker's address
pub record Meaning : Type 0 where
  pub hash : List ℕ
  pub name : Said
  pub address : Said
