-- What it is for a text to be the encoding of a value that keeps the rules, and for an answer to be exact. Assumes nothing: these are definitions.
use Rattle.std.specs.Prelude.{◌≡◌, List, ℕ, ◌≤◌, length}
use Rattle.refusal.specs.Paper.{Outcome, taken}
use Rattle.refusal.specs.Limits.{most_text, most_values, most_levels}
use Rattle.bencode.specs.Value.{Value, encode, count, Keeps}

-- s is v as BEP 3 writes it, and v keeps the limits
pub record Fine (s : List ℕ) (v : Value) : Type 0 where
  pub text : s ≡ encode v
  pub keeps : Keeps v most_levels
  pub few : count v ≤ most_values
  pub short : length s ≤ most_text

-- a text is taken exactly when it is fine, with the count of its value
pub record Exactly (s : List ℕ) (r : Outcome ℕ) : Type 0 where
  pub only : (n : ℕ) → r ≡ taken n → (v : Value) × Fine s v × (count v ≡ n)
  pub every : (v : Value) → Fine s v → r ≡ taken (count v)
