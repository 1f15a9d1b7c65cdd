-- `week::bodies::placed` meets its contract. Assumes nothing.
use Rattle.refusal.specs.Paper.{refusal}
use mathlib.Core.Path.{ap, ◌∙◌}
use native.Mathlib.Omega.{arith}
use Rattle.week.proofs.Summing.{placed_past, placed-cut, placed-body}
use Rattle.week.proofs.bodies.placed.Goals as goal

pub returns-then-file-from : goal.returns-then-file-from
returns-then-file-from c = ap refusal c.refuse.ensures ∙ placed_past c.args.file.now c.args.i c.args.from c.args.len (omega arith)

pub returns-then-file-i : goal.returns-then-file-i
returns-then-file-i c = ap refusal c.refuse-then-file-i.ensures ∙ placed-cut c.args.file.now c.args.i c.args.from c.args.len (omega arith) (omega arith)

pub returns : goal.returns
returns c = c.body.ensures ∙ placed-body c.args.file.now c.args.i c.args.from c.args.len (omega arith) (omega arith)
