-- `week::entries::count` meets its contract. Assumes nothing.
use Rattle.refusal.specs.Paper.{refusal}
use mathlib.Core.Path.{sym, ap, ◌∙◌}
use Rattle.week.proofs.Tabling.{count-is, count_cut}
use Rattle.week.proofs.entries.count.Goals as goal

pub returns-in-Some : goal.returns-in-Some
returns-in-Some c = c.in_range.ensures ∙ count-is c.args.file.now (sym c.read.ensures ∙ c.in-Some.is)

pub returns-in-None : goal.returns-in-None
returns-in-None c = ap refusal c.refuse.ensures ∙ count_cut c.args.file.now (sym c.read.ensures ∙ c.in-None.is)
