-- `wardrail_yard_round` meets its contract: what it calls joins to the call on the whole yard. Assumes nothing.
use Rattle.yard.proofs.Calls.{round-refused, round-done}
use Rattle.yard.proofs.wardrail_yard_round.Goals as goal

pub returns-in-Some : goal.returns-in-Some
returns-in-Some c = round-refused c.args.head.now c.args.seats.now c.args.rows.now c.args.holders.now c.args.told.now c.in-Some.number c.in-Some.ensures

pub returns : goal.returns
returns c = round-done c.args.head.now c.args.seats.now c.args.rows.now c.args.holders.now c.args.told.now c.mark_seats.new.seats c.rank_seats-ranking.result c.free_place-free.result c.seat_get-holder.result c.turn-r.result c.say.new.told c.say.result c.in_default.ensures c.rank_seats-ranking.ensures c.free_place-free.ensures c.seat_get-holder.ensures c.turn-r.ensures c.mark_seats.ensures c.say.ensures.beside c.say.ensures.number
