-- `peer_wire::read_handshake` meets its contract. Assumes nothing.
use Rattle.refusal.specs.Paper.{refusal}
use mathlib.Core.Path.{sym, ap, ◌∙◌}
use borrow.Author.Tests.{not-true, not-false}
use Rattle.peer_wire.proofs.Shaking.{shake-misnamed, shake-wait, shake-other, shake-hello}
use mathlib.Core.Bool.{not}
use Rattle.peer_wire.proofs.read_handshake.Goals as goal

pub returns-then-not-agrees : goal.returns-then-not-agrees
returns-then-not-agrees c = ap refusal c.refuse.ensures ∙ sym (shake-misnamed c.args.info.now c.args.bytes.now (sym c.agrees.ensures ∙ not-true _ (ap not c.if-not-agrees.true)))

pub returns-then-bytes-lt68 : goal.returns-then-bytes-lt68
returns-then-bytes-lt68 c = sym (shake-wait c.args.info.now c.args.bytes.now (sym c.agrees.ensures ∙ not-false _ (ap not c.if-not-agrees.false)) c.if-bytes-lt68.true)

pub returns-then-not-agrees-2 : goal.returns-then-not-agrees-2
returns-then-not-agrees-2 c = ap refusal c.refuse-then-not-agrees-2.ensures ∙ sym (shake-other c.args.info.now c.args.bytes.now (sym c.agrees.ensures ∙ not-false _ (ap not c.if-not-agrees.false)) c.if-bytes-lt68.false (sym c.agrees-2.ensures ∙ not-true _ (ap not c.if-not-agrees-2.true)))

pub returns : goal.returns
returns c = sym (shake-hello c.args.info.now c.args.bytes.now (sym c.agrees.ensures ∙ not-false _ (ap not c.if-not-agrees.false)) c.if-bytes-lt68.false (sym c.agrees-2.ensures ∙ not-false _ (ap not c.if-not-agrees-2.false)))
