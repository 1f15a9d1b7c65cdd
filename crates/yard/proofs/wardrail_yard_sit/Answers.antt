-- `wardrail_yard_sit` meets its contract: what it calls joins to the call on the whole yard. Assumes nothing.
use Rattle.yard.proofs.Calls.{sit-is}
use Rattle.yard.proofs.wardrail_yard_sit.Goals as goal

pub returns : goal.returns
returns c = sit-is c.args.head.now c.args.seats.now c.args.rows.now c.args.holders.now c.args.told.now c.seat_set.new.seats c.sit_step-r.new.rows c.lowest_free-i.result c.seat_get-s.result c.sit_step-r.result c.say.new.told c.say.result c.lowest_free-i.ensures c.seat_get-s.ensures c.sit_step-r.ensures c.seat_set.ensures c.say.ensures.beside c.say.ensures.number
