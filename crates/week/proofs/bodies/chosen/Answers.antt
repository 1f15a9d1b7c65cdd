-- `week::bodies::chosen` meets its contract. Assumes nothing.
use Rattle.refusal.specs.Paper.{paper}
use mathlib.Core.Path.{ap, ◌∙◌}
use native.Mathlib.Omega.{arith}
use Rattle.week.proofs.Summing.{chosen-offset, chosen-length, chosen-told}
use Rattle.week.proofs.bodies.chosen.Goals as goal

pub number_at-from-requires : goal.number_at-from-requires
number_at-from-requires c = (chosen-offset c.args.file.now c.args.n c.requires.0 c.args.i (omega arith)).0

pub number_at-len-requires : goal.number_at-len-requires
number_at-len-requires c = (chosen-length c.args.file.now c.args.n c.requires.0 c.args.i (omega arith)).0

pub returns : goal.returns
returns c = ap paper c.told.ensures ∙ chosen-told c.args.file.now c.args.n c.requires.0 c.args.i (omega arith) c.args.counts.now c.requires.3 c.number_at-from.ensures c.number_at-len.ensures
