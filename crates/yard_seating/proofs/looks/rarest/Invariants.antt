-- Of the first p counts, best is the place of the first of the smallest.
use Rattle.yard_seating.proofs.Looking.{Rarest}
use Rattle.yard_seating.proofs.looks.rarest.Given as goal

abbrev pub invariant-loop-p : goal.invariant-loop-p
invariant-loop-p l = Rarest l.holders l.p l.best
