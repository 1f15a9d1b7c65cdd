-- `peer_wire::write::bitfield` meets its contract. Assumes nothing.
use Rattle.peer_wire.proofs.write.bitfield.Goals as goal

pub returns : goal.returns
returns c = c.framed.ensures
