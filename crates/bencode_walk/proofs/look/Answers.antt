-- `bencode_walk::look` meets its contract. Assumes nothing.
use Rattle.refusal.specs.Paper.{refusal}
use Rattle.bencode_walk.proofs.Seeing.{look-long, look-out, look-integer, look-list, look-dictionary, look-end, look-string}
use native.Mathlib.Omega.{arith}
use mathlib.Core.Path.{ap, ◌∙◌}
use Rattle.bencode_walk.proofs.look.Goals as goal

pub returns-then-text-gt-TEXT : goal.returns-then-text-gt-TEXT
returns-then-text-gt-TEXT c = ap refusal c.refuse.ensures ∙ look-long c.args.text.now c.args.at c.if-text-gt-TEXT.true

pub returns-then-text-at : goal.returns-then-text-at
returns-then-text-at c = ap refusal c.refuse-then-text-at.ensures ∙ look-out c.args.text.now c.args.at (omega arith) (omega arith)

pub returns-then-b-eq105 : goal.returns-then-b-eq105
returns-then-b-eq105 c = c.integer.ensures ∙ look-integer c.args.text.now c.args.at (omega arith) (omega arith) c.if-b-eq105.true

pub returns-then-b-eq108 : goal.returns-then-b-eq108
returns-then-b-eq108 c = look-list c.args.text.now c.args.at (omega arith) (omega arith) c.if-b-eq108.true

pub returns-then-b-eq100 : goal.returns-then-b-eq100
returns-then-b-eq100 c = look-dictionary c.args.text.now c.args.at (omega arith) (omega arith) c.if-b-eq100.true

pub returns-then-b-eq101 : goal.returns-then-b-eq101
returns-then-b-eq101 c = look-end c.args.text.now c.args.at (omega arith) (omega arith) c.if-b-eq101.true

pub string-requires : goal.string-requires
string-requires c = omega arith

pub returns : goal.returns
returns c = c.string.ensures ∙ look-string c.args.text.now c.args.at (omega arith) (omega arith) c.if-b-eq105.false c.if-b-eq108.false c.if-b-eq100.false c.if-b-eq101.false
