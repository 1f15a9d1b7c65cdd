-- `yard_hearing::news::bitfield_step` meets its contract. Assumes nothing.
use mathlib.Core.Path.{sym, ◌∙◌}
use borrow.Author.Tests.{not-true, not-false}
use Rattle.yard_hearing.proofs.Announcing.{bits-late, bits-length, bits-spare, bits-added}
use mathlib.Core.Path.{ap}
use mathlib.Core.Bool.{not}
use Rattle.yard_hearing.proofs.news.bitfield_step.Goals as goal

pub returns-then-not-on : goal.returns-then-not-on
returns-then-not-on c = bits-late c.args.h c.args.s c.args.rows.now c.args.holders.now c.args.n c.args.i c.args.used c.args.said.now c.refused.result (sym c.on.ensures ∙ not-true _ (ap not c.if-not-on.true)) c.refused.ensures

pub returns-then-said-pieces : goal.returns-then-said-pieces
returns-then-said-pieces c = bits-length c.args.h c.args.s c.args.rows.now c.args.holders.now c.args.n c.args.i c.args.used c.args.said.now (sym c.on.ensures ∙ not-false _ (ap not c.if-not-on.false)) c.wide-pieces.result c.wide-pieces.ensures c.refused-then-said-pieces.result c.if-said-pieces.true c.refused-then-said-pieces.ensures

pub returns-then-spare_set : goal.returns-then-spare_set
returns-then-spare_set c = bits-spare c.args.h c.args.s c.args.rows.now c.args.holders.now c.args.n c.args.i c.args.used c.args.said.now (sym c.on.ensures ∙ not-false _ (ap not c.if-not-on.false)) c.wide-pieces.result c.wide-pieces.ensures c.if-said-pieces.false c.spare_set.result c.spare_set.ensures c.refused-then-spare_set.result c.if-spare_set.true c.refused-then-spare_set.ensures

pub returns : goal.returns
returns c = bits-added c.args.h c.args.s c.args.rows.now c.args.holders.now c.args.n c.args.i c.args.used c.args.said.now (sym c.on.ensures ∙ not-false _ (ap not c.if-not-on.false)) c.wide-pieces.result c.wide-pieces.ensures c.if-said-pieces.false c.spare_set.result c.spare_set.ensures _ c.if-spare_set.false c.add_step.ensures
