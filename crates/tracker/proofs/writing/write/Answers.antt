-- `tracker::writing::write` meets its contract. Assumes nothing.
use Rattle.std.proofs.Common.{Err, ap, arith}
use Rattle.tracker.proofs.Written.{size, write-range, write-peer, write-long, write-none, write-whole}
use Rattle.tracker.proofs.writing.write.Goals as goal

pub returns-then-interval : goal.returns-then-interval
returns-then-interval c = write-range c.args.interval c.args.peers.now c.args.out.now c.if-interval.true (ap Err c.refuse.ensures)

pub returns-then-peers-gt0 : goal.returns-then-peers-gt0
returns-then-peers-gt0 c = write-peer c.args.interval c.args.peers.now c.args.out.now (omega arith) c.if-peers-gt0.true (ap Err c.refuse-then-peers-gt0.ensures)

pub returns-then-size-gt-TEXT : goal.returns-then-size-gt-TEXT
returns-then-size-gt-TEXT c = write-long c.args.interval c.args.peers.now c.args.out.now (omega arith) (omega arith) (omega (arith, size c.args.interval c.args.peers.now, c.digits.ensures.0, c.digits-2.ensures.0)) (ap Err c.refuse-then-size-gt-TEXT.ensures)

pub returns-then-out-size : goal.returns-then-out-size
returns-then-out-size c = write-none c.args.interval c.args.peers.now c.args.out.now (omega arith) (omega arith) (omega (arith, size c.args.interval c.args.peers.now, c.digits.ensures.0, c.digits-2.ensures.0)) (omega (arith, size c.args.interval c.args.peers.now, c.digits.ensures.0, c.digits-2.ensures.0)) (ap Err c.refuse-then-out-size.ensures)

pub put_all-requires : goal.put_all-requires
put_all-requires c = omega (arith, size c.args.interval c.args.peers.now, c.digits.ensures.0, c.digits-2.ensures.0)

pub returns : goal.returns
returns c = write-whole c.args.interval c.args.peers.now c.args.out.now (omega arith) (omega arith) (omega (arith, size c.args.interval c.args.peers.now, c.digits.ensures.0, c.digits-2.ensures.0)) (omega (arith, size c.args.interval c.args.peers.now, c.digits.ensures.0, c.digits-2.ensures.0)) c.put_all.ensures.0 c.put_all.ensures.1
