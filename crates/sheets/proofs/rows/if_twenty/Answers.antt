-- `sheets::rows::if_twenty` meets its contract. Assumes nothing.
use Rattle.std.specs.Prelude.{Err}
use mathlib.Core.Path.{refl, ap}
use native.Mathlib.Omega.{arith}
use lib.Dec.{eqb}
use borrow.Author.Tests.{eq-eqb, ne_eqb}
use Rattle.refusal.proofs.Cases.{pick_yes, pick_no}
use Rattle.sheets.specs.Reading.{listed_as}
use Rattle.sheets.proofs.rows.if_twenty.Goals as goal

pub returns-then-len-eq20 : goal.returns-then-len-eq20
returns-then-len-eq20 c = pick_yes _ (eqb c.args.len 20) (eq-eqb c.args.len 20 (omega arith)) refl

pub returns : goal.returns
returns c = pick_no _ (eqb c.args.len 20) (ne_eqb _ _ c.if-len-eq20.false) (ap listed_as (ap Err c.refuse.ensures))
