-- `yard_seating::looks::scarcest` meets its contract. Assumes nothing.
use Rattle.std.specs.Prelude.{Err}
use borrow.Author.Tests.{not-false}
use Rattle.yard_seating.proofs.Ways.{some-piece}
use Rattle.yard_seating.proofs.Ways.{some-piece}
use Rattle.yard_seating.proofs.Looking.{scarce-sizes, scarce-piece}
use lib.ListN.{length}
use mathlib.Core.Path.{refl, sym, ◌∙◌}
use mathlib.Core.Path.{ap}
use mathlib.Core.Bool.{not}
use Rattle.yard_seating.proofs.looks.scarcest.Goals as goal

pub returns-then-not-sizes_fit : goal.returns-then-not-sizes_fit
returns-then-not-sizes_fit c = λ s. scarce-sizes c.args.h c.args.n c.args.rows.now c.args.holders.now _ c.sizes_fit.ensures _ s (ap not c.if-not-sizes_fit.true) (ap Err c.refuse.ensures)

pub rarest-requires : goal.rarest-requires
rarest-requires c = some-piece c.args.h c.args.n (length c.args.rows.now) (length c.args.holders.now) (sym c.sizes_fit.ensures ∙ not-false _ (ap not c.if-not-sizes_fit.false))

pub returns : goal.returns
returns c = λ s. scarce-piece c.args.h c.args.n c.args.rows.now c.args.holders.now _ c.sizes_fit.ensures _ s _ (ap not c.if-not-sizes_fit.false) c.rarest.ensures refl
