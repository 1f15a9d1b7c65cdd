-- `yard_seating::leave_step` meets its contract. Assumes nothing.
use Rattle.yard_seating.proofs.Ways.{row_room, row_inside, leave-fault, leave-head, leave-piece, leave-done, fault-seat}
use Rattle.yard_tables.specs.Replies.{head_at_zero}
use Rattle.yard_tables.specs.declared.Head.{Head}
use lib.ListN.{length}
use native.Mathlib.Omega.{arith}
use Prim.Native.Nat.{◌+◌, ◌*◌, ◌≤◌}
use mathlib.Core.Path.{refl, sym, ap, ◌∙◌}
use Rattle.yard_seating.proofs.leave_step.Goals as goal

pub returns-in-Some : goal.returns-in-Some
returns-in-Some c = leave-fault c.args.h c.args.s c.args.i c.args.n c.args.rows.now c.args.holders.now _ _ c.in-Some.ensures c.refused.ensures

pub overflow_mul-at : goal.overflow_mul-at
overflow_mul-at c = let ri : c.args.i * c.width-w.result + c.width-w.result ≤ length c.args.rows.now = row_inside c.args.h c.args.n (length c.args.rows.now) (length c.args.holders.now) (fault-seat c.args.h c.args.s c.args.i c.args.n c.args.rows.now c.args.holders.now c.in_default.ensures).0 c.args.i _ (fault-seat c.args.h c.args.s c.args.i c.args.n c.args.rows.now c.args.holders.now c.in_default.ensures).1 c.width-w.ensures in omega arith

pub returns-then-head_at_zero : goal.returns-then-head_at_zero
returns-then-head_at_zero c = leave-head c.args.h c.args.s c.args.i c.args.n c.args.rows.now c.args.holders.now _ _ c.in_default.ensures c.head_at_zero.ensures c.if-head_at_zero.true c.refused-then-head_at_zero.ensures

pub some_zero-requires : goal.some_zero-requires
some_zero-requires c = row_room c.args.h c.args.n (length c.args.rows.now) (length c.args.holders.now) (fault-seat c.args.h c.args.s c.args.i c.args.n c.args.rows.now c.args.holders.now c.in_default.ensures).0 c.args.i _ (fault-seat c.args.h c.args.s c.args.i c.args.n c.args.rows.now c.args.holders.now c.in_default.ensures).1 c.width-w.ensures

pub returns-then-some_zero : goal.returns-then-some_zero
returns-then-some_zero c = leave-piece c.args.h c.args.s c.args.i c.args.n c.args.rows.now c.args.holders.now _ _ _ _ _ c.in_default.ensures c.width-w.ensures refl c.head_at_zero.ensures c.if-head_at_zero.false c.some_zero.ensures c.if-some_zero.true c.refused-then-some_zero.ensures

pub lower-requires : goal.lower-requires
lower-requires c = row_room c.args.h c.args.n (length c.args.rows.now) (length c.args.holders.now) (fault-seat c.args.h c.args.s c.args.i c.args.n c.args.rows.now c.args.holders.now c.in_default.ensures).0 c.args.i _ (fault-seat c.args.h c.args.s c.args.i c.args.n c.args.rows.now c.args.holders.now c.in_default.ensures).1 c.width-w.ensures

pub clear-requires : goal.clear-requires
clear-requires c = row_inside c.args.h c.args.n (length c.args.rows.now) (length c.args.holders.now) (fault-seat c.args.h c.args.s c.args.i c.args.n c.args.rows.now c.args.holders.now c.in_default.ensures).0 c.args.i _ (fault-seat c.args.h c.args.s c.args.i c.args.n c.args.rows.now c.args.holders.now c.in_default.ensures).1 c.width-w.ensures

pub gone-requires : goal.gone-requires
gone-requires c = ap (λ (g : Head). head_at_zero g c.args.s) c.give_up.ensures ∙ sym c.head_at_zero.ensures ∙ c.if-head_at_zero.false

pub returns : goal.returns
returns c = leave-done c.args.h c.args.s c.args.i c.args.n c.args.rows.now c.args.holders.now _ _ _ _ _ _ _ _ c.in_default.ensures c.width-w.ensures refl c.head_at_zero.ensures c.if-head_at_zero.false c.some_zero.ensures c.if-some_zero.false c.lower.ensures c.clear.ensures c.give_up.ensures c.gone.ensures
