-- `tracker::writing::put_all` meets its contract. Assumes nothing.
use Rattle.tracker.proofs.Written.{put-parts}
use Rattle.tracker.proofs.writing.put_all.Goals as goal

pub returns : goal.returns
returns c = put-parts c.args.out.now c.args.interval c.args.peers.now c.requires c.literal.ensures c.end-a.ensures c.decimal.ensures c.end-b.ensures c.literal-2.ensures c.end-c.ensures c.string.ensures c.end-d.ensures c.literal-3.ensures c.end.ensures
