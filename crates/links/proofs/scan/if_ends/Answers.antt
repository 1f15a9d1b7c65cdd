-- `links::scan::if_ends` meets its contract. Assumes nothing.
use borrow.Author.Tests.{eq-eqb, ne_eqb}
use mathlib.Core.Path.{refl}
use Rattle.refusal.proofs.Cases.{pick_yes, pick_no}
use Rattle.links.proofs.scan.if_ends.Goals as goal

pub returns-then-b-last : goal.returns-then-b-last
returns-then-b-last c = pick_yes _ _ (eq-eqb _ _ c.if-b-last.true) refl

pub returns : goal.returns
returns c = pick_no _ _ (ne_eqb _ _ c.if-b-last.false) refl
