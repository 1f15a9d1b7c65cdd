-- `yard_hearing::feed_step` meets its contract. Assumes nothing.
use Rattle.std.specs.Prelude.{Ok}
use native.Mathlib.Omega.{arith}
use mathlib.Core.Path.{sym, ◌∙◌}
use borrow.Author.Tests.{not-true, not-false}
use Rattle.yard_hearing.proofs.Hearing.{feed-sizes, feed-past, feed-free, feed-wait, feed-refused, feed-keepalive, feed-whole, feed-have, have-sized, whole-inside, whole-sized}
use mathlib.Core.Path.{ap}
use mathlib.Core.Bool.{not}
use Rattle.yard_hearing.proofs.feed_step.Goals as goal

pub returns-then-not-sizes_fit : goal.returns-then-not-sizes_fit
returns-then-not-sizes_fit c = feed-sizes c.args.h c.args.s c.args.rows.now c.args.holders.now c.args.n c.args.i c.args.bytes.now c.sizes_fit.result c.sizes_fit.ensures c.refused.result (not-true c.sizes_fit.result (ap not c.if-not-sizes_fit.true)) c.refused.ensures

pub returns-then-n-i : goal.returns-then-n-i
returns-then-n-i c = feed-past c.args.h c.args.s c.args.rows.now c.args.holders.now c.args.n c.args.i c.args.bytes.now c.sizes_fit.result c.sizes_fit.ensures (not-false c.sizes_fit.result (ap not c.if-not-sizes_fit.false)) c.refused-then-n-i.result (omega arith) c.refused-then-n-i.ensures

pub returns-then-not-on : goal.returns-then-not-on
returns-then-not-on c = feed-free c.args.h c.args.s c.args.rows.now c.args.holders.now c.args.n c.args.i c.args.bytes.now c.sizes_fit.result c.sizes_fit.ensures (not-false c.sizes_fit.result (ap not c.if-not-sizes_fit.false)) c.refused-then-not-on.result (sym c.on.ensures ∙ not-true _ (ap not c.if-not-on.true)) c.refused-then-not-on.ensures

pub number-requires : goal.number-requires
number-requires c = let z = (c.is_whole.ensures c.if-is_whole.true).0 in omega arith

pub have_step-requires : goal.have_step-requires
have_step-requires c = have-sized c.args.h c.args.s c.args.rows.now c.args.holders.now c.args.n c.args.i c.args.bytes.now c.sizes_fit.result c.sizes_fit.ensures (not-false c.sizes_fit.result (ap not c.if-not-sizes_fit.false)) c.if-n-i.false

pub returns-then-is_whole : goal.returns-then-is_whole
returns-then-is_whole c = feed-have c.args.h c.args.s c.args.rows.now c.args.holders.now c.args.n c.args.i c.args.bytes.now c.sizes_fit.result c.sizes_fit.ensures (not-false c.sizes_fit.result (ap not c.if-not-sizes_fit.false)) _ (record { 0 = c.number.result }) c.if-n-i.false (sym c.on.ensures ∙ not-false _ (ap not c.if-not-on.false)) c.number.ensures (c.is_whole.ensures c.if-is_whole.true).1 c.have_step.ensures

pub frame_step-requires : goal.frame_step-requires
frame_step-requires c = (whole-sized c.args.h c.args.s c.args.rows.now c.args.holders.now c.args.n c.args.i c.args.bytes.now c.sizes_fit.result c.sizes_fit.ensures (not-false c.sizes_fit.result (ap not c.if-not-sizes_fit.false)) c.if-n-i.false (sym c.on.ensures ∙ not-false _ (ap not c.if-not-on.false)) c.read_frame.result c.read_frame.ensures, whole-inside c.args.h c.args.s c.args.rows.now c.args.holders.now c.args.n c.args.i c.args.bytes.now c.sizes_fit.result c.sizes_fit.ensures (not-false c.sizes_fit.result (ap not c.if-not-sizes_fit.false)) c.if-n-i.false (sym c.on.ensures ∙ not-false _ (ap not c.if-not-on.false)) c.read_frame.result c.read_frame.ensures _ _ (c.in-Ok-Whole.is ∙ ap Ok c.in-Ok-Whole.field-0-is))

pub returns-in-Ok-Wait : goal.returns-in-Ok-Wait
returns-in-Ok-Wait c = feed-wait c.args.h c.args.s c.args.rows.now c.args.holders.now c.args.n c.args.i c.args.bytes.now c.sizes_fit.result c.sizes_fit.ensures (not-false c.sizes_fit.result (ap not c.if-not-sizes_fit.false)) c.if-n-i.false (sym c.on.ensures ∙ not-false _ (ap not c.if-not-on.false)) c.read_frame.result c.read_frame.ensures c.waiting.result (c.in-Ok-Wait.is ∙ ap Ok c.in-Ok-Wait.field-0-is) c.waiting.ensures

pub returns-in-Err : goal.returns-in-Err
returns-in-Err c = feed-refused c.args.h c.args.s c.args.rows.now c.args.holders.now c.args.n c.args.i c.args.bytes.now c.sizes_fit.result c.sizes_fit.ensures (not-false c.sizes_fit.result (ap not c.if-not-sizes_fit.false)) c.if-n-i.false (sym c.on.ensures ∙ not-false _ (ap not c.if-not-on.false)) c.read_frame.result c.read_frame.ensures c.refused-in-Err.result _ c.in-Err.is c.refused-in-Err.ensures

pub returns-in-Ok-Keepalive : goal.returns-in-Ok-Keepalive
returns-in-Ok-Keepalive c = feed-keepalive c.args.h c.args.s c.args.rows.now c.args.holders.now c.args.n c.args.i c.args.bytes.now c.sizes_fit.result c.sizes_fit.ensures (not-false c.sizes_fit.result (ap not c.if-not-sizes_fit.false)) c.if-n-i.false (sym c.on.ensures ∙ not-false _ (ap not c.if-not-on.false)) c.read_frame.result c.read_frame.ensures c.taken.result _ (c.in-Ok-Keepalive.is ∙ ap Ok c.in-Ok-Keepalive.field-0-is) c.taken.ensures

pub returns-in-Ok-Whole : goal.returns-in-Ok-Whole
returns-in-Ok-Whole c = feed-whole c.args.h c.args.s c.args.rows.now c.args.holders.now c.args.n c.args.i c.args.bytes.now c.sizes_fit.result c.sizes_fit.ensures (not-false c.sizes_fit.result (ap not c.if-not-sizes_fit.false)) c.if-n-i.false (sym c.on.ensures ∙ not-false _ (ap not c.if-not-on.false)) c.read_frame.result c.read_frame.ensures _ _ _ (c.in-Ok-Whole.is ∙ ap Ok c.in-Ok-Whole.field-0-is) c.frame_step.ensures
