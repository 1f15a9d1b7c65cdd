-- `peer_wire::write::two` meets its contract. Assumes nothing.
use Rattle.peer_wire.proofs.Writing.{two-written}
use Rattle.peer_wire.proofs.write.two.Goals as goal

pub returns : goal.returns
returns c = two-written c.args.a c.args.b 0 c.write.ensures.out_after c.write-2.ensures.out_after
