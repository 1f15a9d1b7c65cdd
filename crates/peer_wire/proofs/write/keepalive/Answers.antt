-- `peer_wire::write::keepalive` meets its contract. Assumes nothing.
use Rattle.refusal.specs.BigEndian.{bytes_of}
use Rattle.peer_wire.proofs.write.keepalive.Goals as goal

pub returns : goal.returns
unfolding bytes_of
returns c = c.literal.ensures
