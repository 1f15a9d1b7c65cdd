-- `peer_wire::write::plain` meets its contract. Assumes nothing.
use Rattle.peer_wire.proofs.write.plain.Goals as goal

pub returns : goal.returns
returns c = c.framed.ensures
