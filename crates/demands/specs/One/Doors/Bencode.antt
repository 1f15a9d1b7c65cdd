-- Demand 1 of `bencode::check`: a text is bencode that keeps the limits, or why not. Assumes nothing.
use Rattle.refusal.specs.Paper.{paper}
use Rattle.refusal.specs.declared.Refusal.{Refusal}
use Rattle.std.specs.Prelude.{List, ◌≡◌, ℕ, Result}
use Rattle.bencode.specs.Answers.{check_of}
use Rattle.bencode.specs.Exact.{Exactly}
use Rattle.demands.specs.One.{Lent, now}

-- bencode::check
abbrev pub check-ensures : (text : Lent (List ℕ)) → Result ℕ Refusal → Type 0
check-ensures text r = (paper r ≡ check_of (now text.entry)) × (Exactly (now text.entry) (paper r))
