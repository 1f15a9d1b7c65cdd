-- `week::bodies::within` meets its contract. Assumes nothing.
use Rattle.refusal.specs.Paper.{refusal}
use mathlib.Core.Path.{refl, sym, ap, ◌∙◌}
use native.Mathlib.Omega.{arith}
use Rattle.week.specs.Rules.{offset_place, length_place}
use Rattle.week.proofs.Tabling.{field_is, field_cut}
use Rattle.week.proofs.Summing.{within_by, inside}
use Rattle.week.proofs.bodies.within.Goals as goal

pub returns-in-Some-read : goal.returns-in-Some-read
returns-in-Some-read c = c.placed.ensures ∙ within_by c.args.file.now c.args.i (field_is _ _ (sym c.read.ensures ∙ c.in-Some.is)) (field_is _ _ (sym c.read-in-Some.ensures ∙ c.in-Some-read.is)) ∙ inside c.args.i c.args.n _ (omega arith)

pub returns-in-None-read : goal.returns-in-None-read
returns-in-None-read c = ap refusal c.refuse-in-None-read.ensures ∙ within_by c.args.file.now c.args.i (field_is c.args.file.now (offset_place c.args.i) (sym c.read.ensures ∙ c.in-Some.is)) (field_cut c.args.file.now (length_place c.args.i) (sym c.read-in-Some.ensures ∙ c.in-None-read.is)) ∙ inside c.args.i c.args.n _ (omega arith)

pub returns-in-None : goal.returns-in-None
returns-in-None c = ap refusal c.refuse-in-None.ensures ∙ within_by c.args.file.now c.args.i (field_cut c.args.file.now (offset_place c.args.i) (sym c.read.ensures ∙ c.in-None.is)) refl ∙ inside c.args.i c.args.n _ (omega arith)
