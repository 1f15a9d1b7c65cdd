-- Demand 1 of `tracker`: how many entries stand from a place on. Assumes nothing.
use Rattle.refusal.specs.Paper.{paper}
use Rattle.refusal.specs.declared.Refusal.{Refusal}
use Rattle.std.specs.Prelude.{List, ◌≡◌, ℕ, Result}
use Rattle.tracker.specs.Entries.{count_of}
use Rattle.demands.specs.One.{Lent, now}

-- tracker::listed::count
abbrev pub count-ensures : (text : Lent (List ℕ)) (first : ℕ) → Result ℕ Refusal → Type 0
count-ensures text first r = paper r ≡ count_of (now text.entry) first
