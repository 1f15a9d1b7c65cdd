-- `wardrail_yard_feed` meets its contract: what it calls joins to the call on the whole yard. Assumes nothing.
use Rattle.yard.proofs.Calls.{feed-is}
use Rattle.yard.proofs.wardrail_yard_feed.Goals as goal

pub returns : goal.returns
returns c = feed-is c.args.head.now c.args.seats.now c.args.rows.now c.args.holders.now c.args.seat c.args.bytes.now c.args.told.now c.seat_set.new.seats c.feed_step-r.new.rows c.feed_step-r.new.holders c.seat_get-s.result c.feed_step-r.result c.heard_head.result c.say.new.told c.say.result c.seat_get-s.ensures c.feed_step-r.ensures c.seat_set.ensures c.heard_head.ensures c.say.ensures.beside c.say.ensures.number
