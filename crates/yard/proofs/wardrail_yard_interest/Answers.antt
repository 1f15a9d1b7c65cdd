-- `wardrail_yard_interest` meets its contract: what it calls joins to the call on the whole yard. Assumes nothing.
use Rattle.yard.proofs.Calls.{interest-is}
use Rattle.yard.proofs.wardrail_yard_interest.Goals as goal

pub returns : goal.returns
returns c = interest-is c.args.head.now c.args.seats.now c.args.rows.now c.args.holders.now c.args.seat c.args.on c.args.frame.now c.seat_set.new.seats c.interest_step-r.new.out c.seat_get-s.result c.interest_step-r.result c.code.result c.seat_get-s.ensures c.interest_step-r.ensures.step c.interest_step-r.ensures.frame c.seat_set.ensures c.code.ensures
