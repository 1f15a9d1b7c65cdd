-- Demand 1 of `yard_telling`: the yard's answers for C. Assumes nothing.
use Rattle.refusal.specs.declared.Refusal.{Refusal}
use Rattle.std.specs.Prelude.{◌≡◌, ℕ, Result}
use Rattle.yard_tables.specs.Tables.{paper}
use Rattle.yard_tables.specs.declared.Answer.{Answer}
use Rattle.yard_tables.specs.declared.Seat.{Seat}
use Rattle.yard_telling.specs.Telling.{code_of, told_of, shown_of}
use Rattle.yard_telling.specs.declared.Told.{Told}

-- yard_telling::code
abbrev pub code-ensures : (a : Result Answer Refusal) → ℕ → Type 0
code-ensures a r = r ≡ code_of (paper a)

-- yard_telling::tell
abbrev pub tell-ensures : (a : Result Answer Refusal) (was : Told) → Told → Type 0
tell-ensures a was r = r ≡ told_of (paper a) was

-- yard_telling::shown
abbrev pub shown-ensures : (a : Result Answer Refusal) (seen : Seat) → Seat → Type 0
shown-ensures a seen r = r ≡ shown_of (paper a) seen
