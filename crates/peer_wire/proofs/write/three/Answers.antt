-- `peer_wire::write::three` meets its contract. Assumes nothing.
use Rattle.peer_wire.proofs.Writing.{three-written}
use Rattle.peer_wire.proofs.write.three.Goals as goal

pub returns : goal.returns
returns c = three-written c.args.a c.args.b c.args.c c.write.ensures.out_after c.write-2.ensures.out_after c.write-3.ensures.out_after
