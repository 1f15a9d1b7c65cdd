-- `week::lines::all` meets its contract. Assumes nothing.
use Rattle.week.proofs.Lining.{Lined}
use Rattle.week.proofs.lines.all.Given as goal

abbrev pub invariant-loop-i : goal.invariant-loop-i
invariant-loop-i l = Lined l.file l.w.count l.initial.out l.out l.at l.i
