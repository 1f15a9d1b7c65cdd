-- `tracker::compact::packed_at` meets its contract. Assumes nothing.
use Rattle.std.proofs.Common.{ap, ◌∙◌, arith}
use Rattle.refusal.specs.Paper.{refusal}
use Rattle.tracker.proofs.Steps.{packed-long, rest-cut, rest-whole}
use Rattle.tracker.proofs.compact.packed_at.Goals as goal

pub returns-then-text-gt-TEXT : goal.returns-then-text-gt-TEXT
returns-then-text-gt-TEXT c = ap refusal c.refuse.ensures ∙ packed-long c.args.text.now c.args.at c.if-text-gt-TEXT.true

pub returns-in_default : goal.returns-in_default
returns-in_default c = ap refusal c.refuse-in_default.ensures ∙ rest-cut c.args.text.now c.args.at c.min.result c.min.ensures c.if-text-gt-TEXT.false c.in_default.len_below

pub returns : goal.returns
returns c = rest-whole c.args.text.now c.args.at c.min.result c.min.ensures c.if-text-gt-TEXT.false c.from.result (omega arith) (c.from.ensures ∙ c.from_be_bytes.ensures)
