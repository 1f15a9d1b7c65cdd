-- Demand 1 of `bencode::value`: one value at a place. Assumes nothing.
use Rattle.std.specs.Prelude.{List, ℕ}
use Rattle.std.proofs.Common.{sym, ◌∙◌}
use Rattle.bencode.specs.declared.Cursor.{Cursor}
use Rattle.demands.specs.One.{Lent, Determined}
use Rattle.demands.specs.One.Inner.Bencode.{value-ensures}

-- bencode::value
pub value-determined : (text : Lent (List ℕ)) (c : Cursor) (levels : ℕ) → Determined (value-ensures text c levels)
value-determined text c levels r r' e f = e ∙ sym f
