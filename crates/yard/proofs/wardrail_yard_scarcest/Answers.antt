-- `wardrail_yard_scarcest` meets its contract: what it calls joins to the call on the whole yard. Assumes nothing.
use Rattle.yard.proofs.Calls.{scarcest-is}
use Rattle.yard.proofs.wardrail_yard_scarcest.Goals as goal

pub returns : goal.returns
returns c = scarcest-is c.args.head.now c.args.seats.now c.args.rows.now c.args.holders.now c.args.told.now c.scarcest-a.result c.say.new.told c.say.result c.scarcest-a.ensures c.say.ensures.beside c.say.ensures.number
