-- `week::entries::sized` meets its contract. Assumes nothing.
use Rattle.refusal.specs.Paper.{refusal}
use mathlib.Core.Path.{sym, ap, ◌∙◌}
use native.Mathlib.Omega.{arith}
use Rattle.week.proofs.Tabling.{length_cut, length_over, length-right}
use Rattle.week.proofs.entries.sized.Goals as goal

pub returns-then-file-past : goal.returns-then-file-past
returns-then-file-past c = ap refusal c.refuse.ensures ∙ length_over c.args.file.now c.args.i c.args.at (sym c.read.ensures ∙ c.in-Some.is) (omega arith)

pub returns-else-file-past : goal.returns-else-file-past
returns-else-file-past c = c.fresh.ensures ∙ length-right c.args.file.now c.args.i c.args.at (sym c.read.ensures ∙ c.in-Some.is) (omega arith)

pub returns-in-None : goal.returns-in-None
returns-in-None c = ap refusal c.refuse-in-None.ensures ∙ length_cut c.args.file.now c.args.i c.args.at (sym c.read.ensures ∙ c.in-None.is)
