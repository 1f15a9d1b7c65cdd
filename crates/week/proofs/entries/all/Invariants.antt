-- `week::entries::all` meets its contract. Assumes nothing.
use Rattle.week.proofs.Tabling.{Going}
use Rattle.week.proofs.entries.all.Given as goal

abbrev pub invariant-loop-i : goal.invariant-loop-i
invariant-loop-i l = Going l.file l.n l.i l.at
