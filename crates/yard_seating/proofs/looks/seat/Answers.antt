-- `yard_seating::looks::seat` meets its contract. Assumes nothing.
use Rattle.std.specs.Prelude.{Err}
use Rattle.yard_seating.proofs.Looking.{seat-sizes, seat-past, seat-shown}
use native.Mathlib.Omega.{arith}
use mathlib.Core.Path.{refl}
use mathlib.Core.Path.{ap}
use mathlib.Core.Bool.{not}
use Rattle.yard_seating.proofs.looks.seat.Goals as goal

pub returns-then-not-sizes_fit : goal.returns-then-not-sizes_fit
returns-then-not-sizes_fit c = seat-sizes c.args.h c.args.n c.args.rows.now c.args.holders.now _ c.sizes_fit.ensures _ c.args.s c.args.i (ap not c.if-not-sizes_fit.true) (ap Err c.refuse.ensures)

pub returns-then-n-i : goal.returns-then-n-i
returns-then-n-i c = seat-past c.args.h c.args.n c.args.rows.now c.args.holders.now _ c.sizes_fit.ensures _ c.args.s c.args.i (ap not c.if-not-sizes_fit.false) c.if-n-i.true (ap Err c.refuse-then-n-i.ensures)

pub returns : goal.returns
returns c = seat-shown c.args.h c.args.n c.args.rows.now c.args.holders.now _ c.sizes_fit.ensures _ c.args.s c.args.i (ap not c.if-not-sizes_fit.false) (omega arith) refl
