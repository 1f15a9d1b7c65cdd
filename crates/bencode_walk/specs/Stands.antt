-- A value stands at a place of a text that is not too long: the text from there on is its encoding and a rest. Assumes nothing: these are definitions.
use Rattle.std.specs.Prelude.{◌≡◌, List, ◌++◌, ℕ, ◌≤◌, length, drop}
use Rattle.refusal.specs.Limits.{most_text, most_values}
use Rattle.bencode.specs.Value.{Value, Items, Entries, encode, encode_items, encode_entries, count, count_items, count_entries, Keeps, KeepsItems, KeepsEntries, Prev}

-- v, d levels deep at most, stands at p in s
pub record Stands (s : List ℕ) (d p : ℕ) (v : Value) : Type 0 where
  pub rest : List ℕ
  pub text : drop p s ≡ encode v ++ rest
  pub inside : p ≤ length s
  pub short : length s ≤ most_text
  pub keeps : Keeps v d
  pub few : count v ≤ most_values

-- the items of a list, up to its e
pub record StandItems (s : List ℕ) (d p : ℕ) (vs : Items) : Type 0 where
  pub rest : List ℕ
  pub text : drop p s ≡ encode_items vs ++ rest
  pub inside : p ≤ length s
  pub short : length s ≤ most_text
  pub keeps : KeepsItems vs d
  pub few : count_items vs ≤ most_values

-- the entries of a dictionary after the key before, up to its e
pub record StandEntries (s : List ℕ) (d p : ℕ) (before : Prev) (es : Entries) : Type 0 where
  pub rest : List ℕ
  pub text : drop p s ≡ encode_entries es ++ rest
  pub inside : p ≤ length s
  pub short : length s ≤ most_text
  pub keeps : KeepsEntries es d before
  pub few : count_entries es ≤ most_values
