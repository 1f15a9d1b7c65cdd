-- `wardrail_yard_missing` meets its contract: what it calls joins to the call on the whole yard. Assumes nothing.
use Rattle.yard.proofs.Calls.{missing-refused, missing-done}
use Rattle.yard.proofs.wardrail_yard_missing.Goals as goal

pub returns-in-Some : goal.returns-in-Some
returns-in-Some c = missing-refused c.args.head.now c.args.seats.now c.args.rows.now c.args.holders.now c.args.first c.args.page.now c.args.told.now c.in-Some.number c.in-Some.ensures

pub returns : goal.returns
returns c = missing-done c.args.head.now c.args.seats.now c.args.rows.now c.args.holders.now c.args.first c.args.page.now c.args.told.now c.list_missing-listed.new.page c.list_missing-listed.result c.say.new.told c.say.result c.in_default.ensures c.list_missing-listed.ensures c.say.ensures.beside c.say.ensures.number
