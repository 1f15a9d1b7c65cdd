-- `wardrail_yard_has` meets its contract: what it calls joins to the call on the whole yard. Assumes nothing.
use Rattle.yard.proofs.Calls.{has-is}
use Rattle.yard.proofs.wardrail_yard_has.Goals as goal

pub returns : goal.returns
returns c = has-is c.args.head.now c.args.seats.now c.args.rows.now c.args.holders.now c.args.seat c.args.piece c.args.told.now c.piece_numbered-p.result c.has-a.result c.say.new.told c.say.result c.piece_numbered-p.ensures c.has-a.ensures c.say.ensures.beside c.say.ensures.number
