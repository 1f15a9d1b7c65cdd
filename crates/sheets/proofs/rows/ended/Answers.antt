-- `sheets::rows::ended` meets its contract. Assumes nothing.
use Rattle.std.specs.Prelude.{Err}
use mathlib.Core.Path.{refl, ap}
use lib.Dec.{ltb}
use borrow.Author.Tests.{lt-ltb, le-ltb}
use Rattle.refusal.proofs.Cases.{pick_yes, pick_no}
use Rattle.sheets.specs.Reading.{listed_as}
use Rattle.sheets.proofs.rows.ended.Goals as goal

pub returns-then-past-end : goal.returns-then-past-end
returns-then-past-end c = pick_yes _ (ltb c.args.past c.args.end) (lt-ltb _ _ c.if-past-end.true) (ap listed_as (ap Err c.refuse.ensures))

pub returns : goal.returns
returns c = pick_no _ (ltb c.args.past c.args.end) (le-ltb _ _ c.if-past-end.false) refl
