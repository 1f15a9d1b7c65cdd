-- `week::entries::entry` meets its contract. Assumes nothing.
use Rattle.refusal.specs.Paper.{refusal}
use mathlib.Core.Path.{sym, ap, ◌∙◌}
use native.Mathlib.Omega.{arith}
use Rattle.week.proofs.Tabling.{offset-cut, offset-other, offset-right}
use Rattle.week.proofs.entries.entry.Goals as goal

pub returns-then-offset-at : goal.returns-then-offset-at
returns-then-offset-at c = ap refusal c.refuse.ensures ∙ offset-other c.args.file.now c.args.i c.args.at (sym c.read.ensures ∙ c.in-Some.is) c.if-offset-at.true

pub returns-else-offset-at : goal.returns-else-offset-at
returns-else-offset-at c = c.sized.ensures ∙ offset-right c.args.file.now c.args.i c.args.at (sym c.read.ensures ∙ c.in-Some.is) (omega arith)

pub returns-in-None : goal.returns-in-None
returns-in-None c = ap refusal c.refuse-in-None.ensures ∙ offset-cut c.args.file.now c.args.i c.args.at (sym c.read.ensures ∙ c.in-None.is)
