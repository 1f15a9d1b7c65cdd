-- `wardrail_yard_choke` meets its contract: what it calls joins to the call on the whole yard. Assumes nothing.
use Rattle.yard.proofs.Calls.{choke-is}
use Rattle.yard.proofs.wardrail_yard_choke.Goals as goal

pub returns : goal.returns
returns c = choke-is c.args.head.now c.args.seats.now c.args.rows.now c.args.holders.now c.args.seat c.args.on c.args.frame.now c.seat_set.new.seats c.choke_step-r.new.out c.seat_get-s.result c.choke_step-r.result c.code.result c.seat_get-s.ensures c.choke_step-r.ensures.step c.choke_step-r.ensures.frame c.seat_set.ensures c.code.ensures
