-- What a round is refused for. Assumes nothing: these are definitions.
-- They serve inner contracts alone and need not be believed: yard/proofs/Calls.antt ties them to yard_tables/specs/Step.antt.
use Rattle.std.specs.Prelude.{cond, ℕ, Option, Some, None}
use Rattle.refusal.specs.Numbers.{sizes, damaged}
use Rattle.yard_tables.specs.Rounds.{misplaced}
use Rattle.yard_tables.specs.Tables.{sizes_fit}
use Rattle.yard_tables.specs.declared.Head.{Head}

-- the number of the refusal of a round for n seats and so many row bytes and holder counts
abbrev pub round_fault : Head → ℕ → ℕ → ℕ → Option ℕ
round_fault h n rows holders = cond (sizes_fit h n rows holders) (cond (misplaced h n) (Some damaged) None) (Some sizes)
