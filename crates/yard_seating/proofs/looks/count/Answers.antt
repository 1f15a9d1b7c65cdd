-- `yard_seating::looks::count` meets its contract. Assumes nothing.
use Rattle.std.specs.Prelude.{Err}
use Rattle.yard_seating.proofs.Looking.{count-sizes, count-beyond, count-is}
use native.Mathlib.Omega.{arith}
use Prim.Native.Nat.{ℕ}
use mathlib.Core.Path.{refl, ap, ◌∙◌}
use Rattle.yard_tables.specs.Looks.{count_of}
use Rattle.yard_tables.specs.Tables.{around}
use mathlib.Core.Bool.{not}
use Rattle.yard_seating.proofs.looks.count.Goals as goal

pub returns-then-not-sizes_fit : goal.returns-then-not-sizes_fit
returns-then-not-sizes_fit c = λ s. count-sizes c.args.h c.args.n c.args.rows.now c.args.holders.now _ c.sizes_fit.ensures _ s c.args.piece.0 (ap not c.if-not-sizes_fit.true) (ap Err c.refuse.ensures)

pub returns-then-holders-p : goal.returns-then-holders-p
returns-then-holders-p c = λ s. count-beyond c.args.h c.args.n c.args.rows.now c.args.holders.now _ c.sizes_fit.ensures _ s c.wide-p.result (ap not c.if-not-sizes_fit.false) c.if-holders-p.true (ap Err c.refuse-then-holders-p.ensures) ∙ ap (λ (x : ℕ). (count_of x c.args.n (around c.args.h s c.args.rows.now c.args.holders.now)).answer) c.wide-p.ensures

pub returns : goal.returns
returns c = λ s. count-is c.args.h c.args.n c.args.rows.now c.args.holders.now _ c.sizes_fit.ensures _ s c.wide-p.result _ (ap not c.if-not-sizes_fit.false) (omega arith) c.wide.ensures refl ∙ ap (λ (x : ℕ). (count_of x c.args.n (around c.args.h s c.args.rows.now c.args.holders.now)).answer) c.wide-p.ensures
