-- Document 02's checks of a sheet, on the decoded value: in their order, each with its number and its place, and then the search for a hash. Places are
-- computed from the encoding. Assumes nothing: these are definitions.
use Rattle.std.specs.Prelude.{cond, List, ℕ, ◌+◌, eqb, length}
use Rattle.refusal.specs.Paper.{Outcome, taken, refused, then}
use Rattle.refusal.specs.Numbers.{peer}
use Rattle.refusal.specs.declared.Part.{Part}
use Rattle.bencode_scalar.specs.Written.{written_string}
use Rattle.bencode.specs.Value.{Value, Entries, str, int, list, dict, empty, entry, encode}
use Rattle.bencode.specs.Decode.{decode}
use Rattle.bencode_walk.specs.Lookup.{Under, nothing, under, lookup}
use Rattle.bencode_fields.specs.Values.{part_of, string_at, dictionary_at}

-- the rows from p on: a key of 20 bytes, else 15 at it, and a string under it
unfoldable pub rows_of : ℕ → Entries → Outcome (Unit {0})
rows_of p empty = taken tt
rows_of p (entry k v es) =
    let r : Outcome (Unit {0}) = then (string_at (p + length (written_string k)) v) (λ x. rows_of (p + length (written_string k) + length (encode v)) es) in
    cond (eqb (length k) 20) r (refused peer p)

-- where the address for a hash stands, if the sheet has one
pub data Listed : Type 0 where
  listed : Part → Listed
  unlisted : Listed

abbrev pub listed_under : Under → Listed
listed_under (under p (str bs)) = listed (part_of p bs)
listed_under (under p (int z)) = unlisted
listed_under (under p (list vs)) = unlisted
listed_under (under p (dict es)) = unlisted
listed_under nothing = unlisted

-- the rows from p on, all of them checked, and then the hash h sought
abbrev pub searched : List ℕ → ℕ → Entries → Outcome Listed
searched h p es = then (rows_of p es) (λ x. taken (listed_under (lookup p es h)))

abbrev pub sheet_at : List ℕ → Value → Outcome Listed
sheet_at h v = then (dictionary_at 0 v) (searched h 1)

-- the sheet that a text is
abbrev pub sheet_of : List ℕ → List ℕ → Outcome Listed
sheet_of h s = then (decode s) (sheet_at h)
