-- Demand 1 of `peer_wire`: frames and the handshake, read. Assumes nothing.
use Rattle.std.specs.Prelude.{List, ℕ}
use Rattle.peer_wire.proofs.Determined as laws
use Rattle.demands.specs.One.{Lent, Determined}
use Rattle.demands.specs.One.Doors.Wire.{read_frame-ensures, read_handshake-ensures}

-- peer_wire::read_frame
pub read_frame-determined : (bytes : Lent (List ℕ)) → Determined (read_frame-ensures bytes)
read_frame-determined bytes r r' e f = laws.read-determined _ r r' e f

-- peer_wire::read_handshake
pub read_handshake-determined : (bytes info : Lent (List ℕ)) → Determined (read_handshake-ensures bytes info)
read_handshake-determined bytes info r r' e f = laws.handshake-determined _ _ r r' e f
