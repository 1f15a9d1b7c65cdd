-- `bencode::begins` meets its contract. Assumes nothing.
use Rattle.bencode.proofs.Turns.{kind-I, kind-L, kind-D, kind-last}
use Rattle.bencode.specs.Decode.{begun}
use mathlib.Core.Path.{sym, ap, ◌∙◌}
use Rattle.bencode.proofs.begins.Goals as goal

pub returns-then-b-eq105 : goal.returns-then-b-eq105
returns-then-b-eq105 c = sym (ap begun (kind-I _ c.if-b-eq105.true))

pub returns-then-b-eq108 : goal.returns-then-b-eq108
returns-then-b-eq108 c = sym (ap begun (kind-L _ c.if-b-eq108.true))

pub returns-then-b-eq100 : goal.returns-then-b-eq100
returns-then-b-eq100 c = sym (ap begun (kind-D _ c.if-b-eq100.true))

pub returns : goal.returns
returns c = c.digit.ensures ∙ sym (kind-last _ c.if-b-eq105.false c.if-b-eq108.false c.if-b-eq100.false)
