-- What a dictionary has under a key, without places. Assumes nothing: these are definitions.
use Rattle.std.specs.Prelude.{List, ℕ}
use Rattle.bencode.specs.Value.{Value, Entries, entry}

-- a dictionary has the value v under the key k
pub data Has : Entries → List ℕ → Value → Type 0 where
  here : (k : List ℕ) (v : Value) (es : Entries) → Has (entry k v es) k v
  there : (j : List ℕ) (w : Value) (es : Entries) (k : List ℕ) (v : Value) → Has es k v → Has (entry j w es) k v
