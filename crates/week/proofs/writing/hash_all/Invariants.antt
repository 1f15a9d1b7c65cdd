-- `week::writing::hash_all` meets its contract. Assumes nothing.
use Rattle.week.proofs.Packing.{Packed}
use Rattle.week.proofs.writing.hash_all.Given as goal

abbrev pub invariant-loop-i : goal.invariant-loop-i
invariant-loop-i l = Packed l.lengths l.bodies l.initial.hashes l.i l.at l.hashes
