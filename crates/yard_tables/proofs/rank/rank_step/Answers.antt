-- `yard_tables::rank::rank_step` meets its contract. Assumes nothing.
use mathlib.Core.Path.{sym, ◌∙◌}
use Rattle.yard_tables.proofs.Marking.{step-wanting, step_past}
use Rattle.yard_tables.proofs.rank.rank_step.Goals as goal

pub returns-then-wants : goal.returns-then-wants
returns-then-wants c = step-wanting c.args.h.last c.args.i c.args.best c.args.s (sym c.wants.ensures ∙ c.if-wants.true) c.note.ensures c.standing.ensures c.insert.ensures

pub returns : goal.returns
returns c = step_past c.args.h.last c.args.i c.args.best c.args.s (sym c.wants.ensures ∙ c.if-wants.false)
