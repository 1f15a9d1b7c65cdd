-- `week::bodies::each` meets its contract. The loop's invariant: the sums from here on are those of the whole. Assumes nothing.
use lib.ListN.{length}
use Rattle.week.proofs.Summing.{Sums}
use Rattle.week.proofs.bodies.each.Given as goal

abbrev pub invariant-loop-i : goal.invariant-loop-i
invariant-loop-i l = Sums l.file l.n (length l.initial.counts) l.counts l.files l.total l.i
