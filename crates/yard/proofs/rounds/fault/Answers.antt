-- `yard::rounds::fault` meets its contract. Assumes nothing.
use borrow.Author.Rules.{rules}
use Rattle.yard.proofs.Faults.{round-sizes, round-damaged, round-none}
use borrow.Author.Tests.{not-true, not-false}
use lib.ListN.{length}
use mathlib.Core.Path.{ap}
use mathlib.Core.Bool.{not}
use Rattle.yard.proofs.rounds.fault.Goals as goal

pub sizes_fit-requires : goal.sizes_fit-requires
sizes_fit-requires c = search rules

pub returns-then-not-sizes_fit : goal.returns-then-not-sizes_fit
returns-then-not-sizes_fit c =
    let a = c.args in
    round-sizes a.h a.n (length a.rows.now) (length a.holders.now) _ c.sizes_fit.ensures (not-true _ (ap not c.if-not-sizes_fit.true))

pub misplaced-requires : goal.misplaced-requires
misplaced-requires c = search rules

pub returns-then-misplaced : goal.returns-then-misplaced
returns-then-misplaced c =
    let a = c.args in
    round-damaged a.h a.n (length a.rows.now) (length a.holders.now) _ c.sizes_fit.ensures _ c.misplaced.ensures (not-false _ (ap not c.if-not-sizes_fit.false)) c.if-misplaced.true

pub returns : goal.returns
returns c =
    let a = c.args in
    round-none a.h a.n (length a.rows.now) (length a.holders.now) _ c.sizes_fit.ensures _ c.misplaced.ensures (not-false _ (ap not c.if-not-sizes_fit.false)) c.if-misplaced.false
