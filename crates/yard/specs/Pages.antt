-- What a page of the missing list is refused for. Assumes nothing: these are definitions.
-- They serve inner contracts alone and need not be believed: yard/proofs/Calls.antt ties them to yard_tables/specs/Step.antt.
use Rattle.std.specs.Prelude.{cond, ℕ, leb, Option, Some, None}
use Rattle.refusal.specs.Numbers.{seat, sizes}
use Rattle.yard_tables.specs.Tables.{sizes_fit}
use Rattle.yard_tables.specs.declared.Head.{Head}

-- the number of the refusal of a page from a first seat on, for n seats and so many row bytes and holder counts
abbrev pub page_fault : Head → ℕ → ℕ → ℕ → ℕ → Option ℕ
page_fault h n rows holders first = cond (sizes_fit h n rows holders) (cond (leb first n) None (Some seat)) (Some sizes)
