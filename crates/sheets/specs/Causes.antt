-- Why a value is no sheet: each refusal's number and place, by the first row that breaks a rule. Assumes nothing: these are definitions.
-- The last two arguments are the refusal's number and place.
use Rattle.std.specs.Prelude.{◌≡◌, List, ℕ, ◌+◌, length}
use Rattle.refusal.specs.Numbers.{kind, peer}
use Rattle.bencode_scalar.specs.Written.{written_string}
use Rattle.bencode.specs.Value.{Value, Entries, str, dict, entry, encode}
use Rattle.bencode.specs.Exact.{Fine}

-- of the rows from p on, the first that is bad: its key has not 20 bytes, or its address is no string
pub data NoRows : ℕ → Entries → ℕ → ℕ → Type 0 where
  bad-key : (p : ℕ) (k : List ℕ) (v : Value) (es : Entries) → (length k ≡ 20 → ⊥) → NoRows p (entry k v es) peer p
  bad-address : (p : ℕ) (k : List ℕ) (v : Value) (es : Entries) → length k ≡ 20 → ((bs : List ℕ) → v ≡ str bs → ⊥) → NoRows p (entry k v es) kind (p + length (written_string k))
  later-row : (p : ℕ) (k bs : List ℕ) (es : Entries) (n q : ℕ) → length k ≡ 20 → NoRows (p + length (written_string k) + length (encode (str bs))) es n q → NoRows p (entry k (str bs) es) n q

-- no dictionary, or a bad row
pub data NoSheet : Value → ℕ → ℕ → Type 0 where
  no-dictionary : (v : Value) → ((es : Entries) → v ≡ dict es → ⊥) → NoSheet v kind 0
  bad-row : (es : Entries) (n q : ℕ) → NoRows 1 es n q → NoSheet (dict es) n q

-- the text is the encoding of a value that keeps bencode's limits and is no sheet
abbrev pub NoSheetText : List ℕ → ℕ → ℕ → Type 0
NoSheetText s n p = (v : Value) × Fine s v × NoSheet v n p
