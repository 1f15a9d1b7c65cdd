-- The same asked of a decoded value that stands at a place. Assumes nothing: these are definitions.
use Rattle.std.specs.Prelude.{List, ℕ, suc, ◌+◌, length}
use Rattle.refusal.specs.Paper.{Outcome, taken, refused}
use Rattle.refusal.specs.Numbers.{kind}
use Rattle.refusal.specs.declared.Part.{Part}
use Rattle.bencode_scalar.specs.Written.{decimal}
use Rattle.bencode.specs.Value.{Value, Items, Entries, str, int, list, dict}
use Rattle.bencode_walk.specs.Lookup.{Under, nothing, under}
use Rattle.bencode_fields.specs.Looks.{ranged}

-- the bytes of a string that stands at p: past its length and colon
abbrev pub part_of : ℕ → List ℕ → Part
part_of p bs = record { from = p + suc (length (decimal (length bs))); len = length bs }

-- the value at p as a string, a number from 0 to most, a list, a dictionary; another kind is 10 at p, a number out of range 11 at p
abbrev pub string_at : ℕ → Value → Outcome Part
string_at p (str bs) = taken (part_of p bs)
string_at p (int z) = refused kind p
string_at p (list vs) = refused kind p
string_at p (dict es) = refused kind p

abbrev pub natural_at : ℕ → ℕ → Value → Outcome ℕ
natural_at most p (str bs) = refused kind p
natural_at most p (int z) = ranged most p z
natural_at most p (list vs) = refused kind p
natural_at most p (dict es) = refused kind p

abbrev pub list_at_of : ℕ → Value → Outcome Items
list_at_of p (str bs) = refused kind p
list_at_of p (int z) = refused kind p
list_at_of p (list vs) = taken vs
list_at_of p (dict es) = refused kind p

abbrev pub dictionary_at : ℕ → Value → Outcome Entries
dictionary_at p (str bs) = refused kind p
dictionary_at p (int z) = refused kind p
dictionary_at p (list vs) = refused kind p
dictionary_at p (dict es) = taken es

-- a key that must be in the dictionary at d: f of its value and that value's place; missing it is 10 at d
abbrev pub must : {A : Type 0} → ℕ → Under → (ℕ → Value → Outcome A) → Outcome A
must d nothing f = refused kind d
must d (under p v) f = f p v
