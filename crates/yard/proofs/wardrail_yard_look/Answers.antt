-- `wardrail_yard_look` meets its contract: what it calls joins to the call on the whole yard. Assumes nothing.
use Rattle.yard.proofs.Calls.{look_is}
use Rattle.yard.proofs.wardrail_yard_look.Goals as goal

pub returns : goal.returns
returns c = look_is c.args.head.now c.args.seats.now c.args.rows.now c.args.holders.now c.args.seat c.args.seen.now c.seat_get-s.result c.seat-a.result c.shown.result c.code.result c.seat_get-s.ensures c.seat-a.ensures c.shown.ensures c.code.ensures
