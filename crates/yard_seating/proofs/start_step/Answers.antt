-- `yard_seating::start_step` meets its contract. Assumes nothing.
use Rattle.yard_seating.proofs.Ways.{some-seats, start-refused, start-done}
use lib.ListN.{length}
use borrow.Author.Tests.{not-false}
use mathlib.Core.Path.{sym, ap, ◌∙◌}
use mathlib.Core.Bool.{not}
use Rattle.yard_seating.proofs.start_step.Goals as goal

pub returns-then-not-sizes_fit : goal.returns-then-not-sizes_fit
returns-then-not-sizes_fit c h seats e = start-refused _ c.args.n c.args.rows.now c.args.holders.now c.args.pieces c.args.piece_length c.args.last_length c.empty_head-empty.ensures _ c.sizes_fit.ensures h seats e _ (ap not c.if-not-sizes_fit.true) c.refuse.ensures

pub begin-requires : goal.begin-requires
begin-requires c = some-seats _ c.args.n (length c.args.rows.now) (length c.args.holders.now) (sym c.sizes_fit.ensures ∙ not-false _ (ap not c.if-not-sizes_fit.false))

pub returns : goal.returns
returns c h seats e = start-done _ c.args.n c.args.rows.now c.args.holders.now c.args.pieces c.args.piece_length c.args.last_length c.empty_head-empty.ensures _ c.sizes_fit.ensures h seats e _ _ _ (ap not c.if-not-sizes_fit.false) (c.fill.ensures.after (λ y e. e)) (c.fill-2.ensures.after (λ y e. e)) c.begin.ensures
