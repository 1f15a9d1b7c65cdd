-- Demand 1 of `peer_wire::write`: frames and the handshake, written. Assumes nothing.
use Rattle.refusal.specs.Paper.{paper}
use Rattle.std.specs.Prelude.{List, ℕ}
use Rattle.torrent_blocks.specs.declared.PieceNumber.{PieceNumber}
use Rattle.torrent_blocks.specs.declared.PieceOffset.{PieceOffset}
use Rattle.peer_wire.proofs.Written as laws
use Rattle.bencode_writer.proofs.Laws as puts
use Rattle.demands.specs.One.{Lent, Determined1, Keeps1, Refused}
use Rattle.demands.specs.One.Doors.WireWriting.{keepalive-ensures, raw-ensures, plain-ensures, have-ensures, bitfield-ensures, request-ensures, piece-ensures, cancel-ensures, handshake-ensures}

-- peer_wire::write::keepalive
pub keepalive-determined : Determined1 keepalive-ensures
keepalive-determined out r r' out₁ out₂ e f = laws.put-determined _ r r' e f

pub keepalive-keeps : Keeps1 keepalive-ensures (λ r. Refused (paper r))
keepalive-keeps r out e k = (puts.refusal-keeps _ _ _ r e k.2).1

-- peer_wire::write::raw
pub raw-determined : (id : ℕ) (payload : Lent (List ℕ)) → Determined1 (raw-ensures id payload)
raw-determined id payload out r r' out₁ out₂ e f = laws.put-determined _ r r' e f

pub raw-keeps : (id : ℕ) (payload : Lent (List ℕ)) → Keeps1 (raw-ensures id payload) (λ r. Refused (paper r))
raw-keeps id payload r out e k = (laws.refusal-keeps _ _ r e k.2).1

-- peer_wire::write::plain
pub plain-determined : (id : ℕ) → Determined1 (plain-ensures id)
plain-determined id out r r' out₁ out₂ e f = laws.put-determined _ r r' e f

pub plain-keeps : (id : ℕ) → Keeps1 (plain-ensures id) (λ r. Refused (paper r))
plain-keeps id r out e k = (laws.refusal-keeps _ _ r e k.2).1

-- peer_wire::write::have
pub have-determined : (index : PieceNumber) → Determined1 (have-ensures index)
have-determined index out r r' out₁ out₂ e f = laws.put-determined _ r r' e f

pub have-keeps : (index : PieceNumber) → Keeps1 (have-ensures index) (λ r. Refused (paper r))
have-keeps index r out e k = (laws.refusal-keeps _ _ r e k.2).1

-- peer_wire::write::bitfield
pub bitfield-determined : (bits : Lent (List ℕ)) → Determined1 (bitfield-ensures bits)
bitfield-determined bits out r r' out₁ out₂ e f = laws.put-determined _ r r' e f

pub bitfield-keeps : (bits : Lent (List ℕ)) → Keeps1 (bitfield-ensures bits) (λ r. Refused (paper r))
bitfield-keeps bits r out e k = (laws.refusal-keeps _ _ r e k.2).1

-- peer_wire::write::request
pub request-determined : (index : PieceNumber) (begin : PieceOffset) (len : ℕ) → Determined1 (request-ensures index begin len)
request-determined index begin len out r r' out₁ out₂ e f = laws.put-determined _ r r' e f

pub request-keeps : (index : PieceNumber) (begin : PieceOffset) (len : ℕ) → Keeps1 (request-ensures index begin len) (λ r. Refused (paper r))
request-keeps index begin len r out e k = (laws.refusal-keeps _ _ r e k.2).1

-- peer_wire::write::piece
pub piece-determined : (index : PieceNumber) (begin : PieceOffset) (block : Lent (List ℕ)) → Determined1 (piece-ensures index begin block)
piece-determined index begin block out r r' out₁ out₂ e f = laws.put-determined _ r r' e f

pub piece-keeps : (index : PieceNumber) (begin : PieceOffset) (block : Lent (List ℕ)) → Keeps1 (piece-ensures index begin block) (λ r. Refused (paper r))
piece-keeps index begin block r out e k = (laws.refusal-keeps _ _ r e k.2).1

-- peer_wire::write::cancel
pub cancel-determined : (index : PieceNumber) (begin : PieceOffset) (len : ℕ) → Determined1 (cancel-ensures index begin len)
cancel-determined index begin len out r r' out₁ out₂ e f = laws.put-determined _ r r' e f

pub cancel-keeps : (index : PieceNumber) (begin : PieceOffset) (len : ℕ) → Keeps1 (cancel-ensures index begin len) (λ r. Refused (paper r))
cancel-keeps index begin len r out e k = (laws.refusal-keeps _ _ r e k.2).1

-- peer_wire::write::handshake
pub handshake-determined : (info peer : Lent (List ℕ)) → Determined1 (handshake-ensures info peer)
handshake-determined info peer out r r' out₁ out₂ e f = laws.put-determined _ r r' e f

pub handshake-keeps : (info peer : Lent (List ℕ)) → Keeps1 (handshake-ensures info peer) (λ r. Refused (paper r))
handshake-keeps info peer r out e k = (puts.refusal-keeps _ _ _ r e k.2).1
