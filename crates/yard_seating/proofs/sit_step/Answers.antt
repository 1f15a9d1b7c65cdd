-- `yard_seating::sit_step` meets its contract. Assumes nothing.
use borrow.Author.Tests.{not-false}
use Rattle.yard_seating.proofs.Ways.{few-seats, row_inside, sit-sizes, sit-full, sit-damaged, sit-done}
use Rattle.yard_seating.proofs.Ways.{row_inside, sit-sizes, sit-full, sit-damaged, sit-done}
use lib.ListN.{length}
use native.Mathlib.Omega.{arith}
use Prim.Native.Nat.{◌+◌, ◌*◌, ◌≤◌}
use mathlib.Core.Path.{sym, ◌∙◌}
use mathlib.Core.Path.{ap}
use mathlib.Core.Bool.{not}
use Rattle.yard_seating.proofs.sit_step.Goals as goal

pub returns-then-not-sizes_fit : goal.returns-then-not-sizes_fit
returns-then-not-sizes_fit c = sit-sizes c.args.h c.args.s c.args.i c.args.n c.args.rows.now c.args.holders.now _ c.sizes_fit.ensures _ (ap not c.if-not-sizes_fit.true) c.refused.ensures

pub returns-then-n-i : goal.returns-then-n-i
returns-then-n-i c = sit-full c.args.h c.args.s c.args.i c.args.n c.args.rows.now c.args.holders.now _ c.sizes_fit.ensures _ (ap not c.if-not-sizes_fit.false) c.if-n-i.true c.refused-then-n-i.ensures

pub returns-then-n-h : goal.returns-then-n-h
returns-then-n-h c = sit-damaged c.args.h c.args.s c.args.i c.args.n c.args.rows.now c.args.holders.now _ c.sizes_fit.ensures _ (ap not c.if-not-sizes_fit.false) (omega arith) c.if-n-h.true c.refused-then-n-h.ensures

pub overflow_mul-i : goal.overflow_mul-i
overflow_mul-i c = let ri : c.args.i * c.width-w.result + c.width-w.result ≤ length c.args.rows.now = row_inside c.args.h c.args.n (length c.args.rows.now) (length c.args.holders.now) (sym c.sizes_fit.ensures ∙ not-false _ (ap not c.if-not-sizes_fit.false)) c.args.i _ (omega arith) c.width-w.ensures in omega arith

pub clear-requires : goal.clear-requires
clear-requires c = let ri : c.args.i * c.width-w.result + c.width-w.result ≤ length c.args.rows.now = row_inside c.args.h c.args.n (length c.args.rows.now) (length c.args.holders.now) (sym c.sizes_fit.ensures ∙ not-false _ (ap not c.if-not-sizes_fit.false)) c.args.i _ (omega arith) c.width-w.ensures in omega arith

pub seated-requires : goal.seated-requires
seated-requires c = let fs : c.args.n ≤ 2000 = few-seats c.args.h c.args.n (length c.args.rows.now) (length c.args.holders.now) (sym c.sizes_fit.ensures ∙ not-false _ (ap not c.if-not-sizes_fit.false)) in omega arith

pub returns : goal.returns
returns c = sit-done c.args.h c.args.s c.args.i c.args.n c.args.rows.now c.args.holders.now _ c.sizes_fit.ensures _ _ _ (ap not c.if-not-sizes_fit.false) (omega arith) (omega arith) c.width-w.ensures c.clear.ensures c.seated.ensures
