-- `week::writing::entries` meets its contract. Assumes nothing.
use Rattle.week.proofs.Packing.{Tabled}
use Rattle.week.proofs.writing.entries.Given as goal

abbrev pub invariant-loop-i : goal.invariant-loop-i
invariant-loop-i l = Tabled l.lengths l.hashes l.initial.out l.i l.body l.at l.out
