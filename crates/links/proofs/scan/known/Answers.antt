-- `links::scan::known` meets its contract. Assumes nothing.
use mathlib.Core.Path.{◌∙◌}
use Rattle.links.proofs.Turning.{field-x, field-d, field-t, field-none}
use Rattle.links.proofs.scan.known.Goals as goal

pub returns-then-a-eq120 : goal.returns-then-a-eq120
returns-then-a-eq120 c = c.if_ends.ensures ∙ field-x c.args.a c.args.b c.if-a-eq120.true

pub returns-then-a-eq100 : goal.returns-then-a-eq100
returns-then-a-eq100 c = c.if_ends-then-a-eq100.ensures ∙ field-d c.args.a c.args.b c.if-a-eq100.true

pub returns-then-a-eq116 : goal.returns-then-a-eq116
returns-then-a-eq116 c = c.if_ends-then-a-eq116.ensures ∙ field-t c.args.a c.args.b c.if-a-eq116.true

pub returns : goal.returns
returns c = field-none c.args.a c.args.b c.if-a-eq120.false c.if-a-eq100.false c.if-a-eq116.false
