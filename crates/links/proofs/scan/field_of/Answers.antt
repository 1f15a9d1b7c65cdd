-- `links::scan::field_of` meets its contract. Assumes nothing.
use mathlib.Core.Path.{ap, sym, ◌∙◌}
use lib.Seq.{length-take-le}
use lib.ListN.{length-drop}
use Rattle.links.proofs.Turning.{field-other, two-letters}
use Rattle.links.specs.Reading.{field_of}
use native.Mathlib.Omega.{arith}
use Rattle.links.proofs.scan.field_of.Goals as goal

pub returns-then-stop-at-ne2 : goal.returns-then-stop-at-ne2
returns-then-stop-at-ne2 c = field-other _ (λ e. c.if-stop-at-ne2.true (sym (length-take-le _ _ (rw length-drop (omega arith))) ∙ e))

pub returns : goal.returns
returns c = c.known.ensures ∙ ap field_of (two-letters c.args.text.now c.args.at c.args.stop (omega arith) c.if-stop-at-ne2.false)
