-- `peer_wire::write::one` meets its contract. Assumes nothing.
use Rattle.peer_wire.proofs.Writing.{one_written}
use Rattle.peer_wire.proofs.write.one.Goals as goal

pub returns : goal.returns
returns c = one_written c.args.a 0 0 c.write.ensures.out_after
