-- `wardrail_yard_leave` meets its contract: what it calls joins to the call on the whole yard. Assumes nothing.
use Rattle.yard.proofs.Calls.{leave-is}
use Rattle.yard.proofs.wardrail_yard_leave.Goals as goal

pub returns : goal.returns
returns c = leave-is c.args.head.now c.args.seats.now c.args.rows.now c.args.holders.now c.args.seat c.seat_set.new.seats c.leave_step-r.new.rows c.leave_step-r.new.holders c.seat_get-s.result c.leave_step-r.result c.code.result c.seat_get-s.ensures c.leave_step-r.ensures c.seat_set.ensures c.code.ensures
