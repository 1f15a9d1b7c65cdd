-- Demand 1 of `bencode::value`: one value at a place. Assumes nothing.
use Rattle.refusal.specs.declared.Refusal.{Refusal}
use Rattle.std.specs.Prelude.{List, ◌≡◌, ℕ, length, drop, Result}
use Rattle.bencode.specs.Answers.{step_of}
use Rattle.bencode.specs.Decode.{value_from}
use Rattle.bencode.specs.declared.Cursor.{Cursor}
use Rattle.demands.specs.One.{Lent, now}

-- bencode::value
abbrev pub value-ensures : (text : Lent (List ℕ)) (c : Cursor) (levels : ℕ) → Result Cursor Refusal → Type 0
value-ensures text c levels r = r ≡ step_of (value_from levels (length (now text.entry)) (drop c.at (now text.entry)) c.at c.count)
