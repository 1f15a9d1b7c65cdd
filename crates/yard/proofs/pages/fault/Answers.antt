-- `yard::pages::fault` meets its contract. Assumes nothing.
use borrow.Author.Rules.{rules}
use Rattle.yard.proofs.Faults.{fault-sizes, fault-seat, fault-none}
use borrow.Author.Tests.{not-true, not-false}
use native.Mathlib.Omega.{arith}
use lib.ListN.{length}
use mathlib.Core.Path.{ap}
use mathlib.Core.Bool.{not}
use Rattle.yard.proofs.pages.fault.Goals as goal

pub sizes_fit-requires : goal.sizes_fit-requires
sizes_fit-requires c = search rules

pub returns-then-not-sizes_fit : goal.returns-then-not-sizes_fit
returns-then-not-sizes_fit c = fault-sizes c.args.h c.args.n (length c.args.rows.now) (length c.args.holders.now) c.args.first _ c.sizes_fit.ensures (not-true _ (ap not c.if-not-sizes_fit.true))

pub returns-then-n-first : goal.returns-then-n-first
returns-then-n-first c = fault-seat c.args.h c.args.n (length c.args.rows.now) (length c.args.holders.now) c.args.first _ c.sizes_fit.ensures (not-false _ (ap not c.if-not-sizes_fit.false)) (omega arith)

pub returns : goal.returns
returns c = fault-none c.args.h c.args.n (length c.args.rows.now) (length c.args.holders.now) c.args.first _ c.sizes_fit.ensures (not-false _ (ap not c.if-not-sizes_fit.false)) (omega arith)
