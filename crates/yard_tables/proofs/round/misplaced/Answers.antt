-- `yard_tables::round::misplaced` meets its contract. Assumes nothing.
use Rattle.std.proofs.Common.{rules}
use Rattle.yard_tables.specs.Rounds.{misplaced}
use Rattle.yard_tables.proofs.round.misplaced.Goals as goal

pub returns-then-h-gt2 : goal.returns-then-h-gt2
unfolding misplaced
returns-then-h-gt2 c = search rules

pub returns-then-n-wide : goal.returns-then-n-wide
unfolding misplaced
returns-then-n-wide c = search rules

pub returns-else-n-wide : goal.returns-else-n-wide
unfolding misplaced
returns-else-n-wide c = search rules
