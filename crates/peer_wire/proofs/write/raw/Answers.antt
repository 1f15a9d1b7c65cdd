-- `peer_wire::write::raw` meets its contract. Assumes nothing.
use Rattle.peer_wire.proofs.write.raw.Goals as goal

pub returns : goal.returns
returns c = c.framed.ensures
