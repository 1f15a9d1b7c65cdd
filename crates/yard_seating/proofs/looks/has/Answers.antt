-- `yard_seating::looks::has` meets its contract. Assumes nothing.
use Rattle.std.specs.Prelude.{Err}
use borrow.Author.Tests.{not-false}
use Rattle.yard_seating.proofs.Ways.{row-byte-in}
use Rattle.yard_seating.proofs.Looking.{has-sizes, has-past, has-beyond, has-is}
use lib.ListN.{length}
use native.Mathlib.Omega.{arith}
use Prim.Native.Nat.{ℕ, ◌+◌, ◌*◌, ◌/◌, ◌<◌}
use mathlib.Core.Path.{refl, sym, ap, ◌∙◌}
use Rattle.yard_tables.specs.Looks.{has_of}
use Rattle.yard_tables.specs.Tables.{around}
use mathlib.Core.Bool.{not}
use Rattle.yard_seating.proofs.looks.has.Goals as goal

pub returns-then-not-sizes_fit : goal.returns-then-not-sizes_fit
returns-then-not-sizes_fit c = λ s. has-sizes c.args.h c.args.n c.args.rows.now c.args.holders.now _ c.sizes_fit.ensures _ s c.args.piece.0 c.args.i (ap not c.if-not-sizes_fit.true) (ap Err c.refuse.ensures)

pub returns-then-n-i : goal.returns-then-n-i
returns-then-n-i c = λ s. has-past c.args.h c.args.n c.args.rows.now c.args.holders.now _ c.sizes_fit.ensures _ s c.args.piece.0 c.args.i (ap not c.if-not-sizes_fit.false) c.if-n-i.true (ap Err c.refuse-then-n-i.ensures)

pub returns-then-holders-p : goal.returns-then-holders-p
returns-then-holders-p c = λ s. has-beyond c.args.h c.args.n c.args.rows.now c.args.holders.now _ c.sizes_fit.ensures _ s c.wide-p.result c.args.i (ap not c.if-not-sizes_fit.false) (omega arith) c.if-holders-p.true (ap Err c.refuse-then-holders-p.ensures) ∙ ap (λ (x : ℕ). (has_of c.args.i x c.args.n (around c.args.h s c.args.rows.now c.args.holders.now)).answer) c.wide-p.ensures

pub overflow_mul-byte : goal.overflow_mul-byte
overflow_mul-byte c = let rb : c.args.i * c.width.result + c.wide-p.result / 8 < length c.args.rows.now = row-byte-in c.args.h c.args.n (length c.args.rows.now) (length c.args.holders.now) (sym c.sizes_fit.ensures ∙ not-false _ (ap not c.if-not-sizes_fit.false)) c.args.i c.wide-p.result _ (omega arith) (omega arith) c.width.ensures in omega arith

pub overflow_add-byte : goal.overflow_add-byte
overflow_add-byte c = let rb : c.args.i * c.width.result + c.wide-p.result / 8 < length c.args.rows.now = row-byte-in c.args.h c.args.n (length c.args.rows.now) (length c.args.holders.now) (sym c.sizes_fit.ensures ∙ not-false _ (ap not c.if-not-sizes_fit.false)) c.args.i c.wide-p.result _ (omega arith) (omega arith) c.width.ensures in omega arith

pub bounds-rows-i : goal.bounds-rows-i
bounds-rows-i c = let rb : c.args.i * c.width.result + c.wide-p.result / 8 < length c.args.rows.now = row-byte-in c.args.h c.args.n (length c.args.rows.now) (length c.args.holders.now) (sym c.sizes_fit.ensures ∙ not-false _ (ap not c.if-not-sizes_fit.false)) c.args.i c.wide-p.result _ (omega arith) (omega arith) c.width.ensures in omega arith

pub returns : goal.returns
returns c = λ s. has-is c.args.h c.args.n c.args.rows.now c.args.holders.now _ c.sizes_fit.ensures _ s c.wide-p.result c.args.i _ _ (ap not c.if-not-sizes_fit.false) (omega arith) (omega arith) c.width.ensures c.bit_of.ensures refl ∙ ap (λ (x : ℕ). (has_of c.args.i x c.args.n (around c.args.h s c.args.rows.now c.args.holders.now)).answer) c.wide-p.ensures
