-- Demand 1 of `peer_wire::write`: frames and the handshake, written. Assumes nothing.
use Rattle.refusal.specs.Paper.{paper}
use Rattle.refusal.specs.declared.Refusal.{Refusal}
use Rattle.std.specs.Prelude.{List, ◌∷◌, [], ◌≡◌, ℕ, Result}
use Rattle.bencode_writer.specs.Put.{left, put_of}
use Rattle.torrent_blocks.specs.declared.PieceNumber.{PieceNumber}
use Rattle.torrent_blocks.specs.declared.PieceOffset.{PieceOffset}
use Rattle.peer_wire.specs.Frames.{write_of}
use Rattle.peer_wire.specs.Handshake.{handshake, zeros}
use Rattle.peer_wire.specs.Message.{keepalive, encode, have, body, bitfield, request, piece, cancel}
use Rattle.demands.specs.One.{Lent, now}

-- peer_wire::write::keepalive
abbrev pub keepalive-ensures : Result ℕ Refusal → Lent (List ℕ) → Type 0
keepalive-ensures r out = left (paper r) (now out.exit) ≡ put_of (encode keepalive) 0 (now out.entry)

-- peer_wire::write::raw
abbrev pub raw-ensures : (id : ℕ) (payload : Lent (List ℕ)) → Result ℕ Refusal → Lent (List ℕ) → Type 0
raw-ensures id payload r out = left (paper r) (now out.exit) ≡ write_of (id ∷ now payload.entry) (now out.entry)

-- peer_wire::write::plain
abbrev pub plain-ensures : (id : ℕ) → Result ℕ Refusal → Lent (List ℕ) → Type 0
plain-ensures id r out = left (paper r) (now out.exit) ≡ write_of (id ∷ []) (now out.entry)

-- peer_wire::write::have
abbrev pub have-ensures : (index : PieceNumber) → Result ℕ Refusal → Lent (List ℕ) → Type 0
have-ensures index r out = left (paper r) (now out.exit) ≡ write_of (body (have index.0)) (now out.entry)

-- peer_wire::write::bitfield
abbrev pub bitfield-ensures : (bits : Lent (List ℕ)) → Result ℕ Refusal → Lent (List ℕ) → Type 0
bitfield-ensures bits r out = left (paper r) (now out.exit) ≡ write_of (body (bitfield (now bits.entry))) (now out.entry)

-- peer_wire::write::request
abbrev pub request-ensures : (index : PieceNumber) (begin : PieceOffset) (len : ℕ) → Result ℕ Refusal → Lent (List ℕ) → Type 0
request-ensures index begin len r out = left (paper r) (now out.exit) ≡ write_of (body (request index.0 begin.0 len)) (now out.entry)

-- peer_wire::write::piece
abbrev pub piece-ensures : (index : PieceNumber) (begin : PieceOffset) (block : Lent (List ℕ)) → Result ℕ Refusal → Lent (List ℕ) → Type 0
piece-ensures index begin block r out = left (paper r) (now out.exit) ≡ write_of (body (piece index.0 begin.0 (now block.entry))) (now out.entry)

-- peer_wire::write::cancel
abbrev pub cancel-ensures : (index : PieceNumber) (begin : PieceOffset) (len : ℕ) → Result ℕ Refusal → Lent (List ℕ) → Type 0
cancel-ensures index begin len r out = left (paper r) (now out.exit) ≡ write_of (body (cancel index.0 begin.0 len)) (now out.entry)

-- peer_wire::write::handshake
abbrev pub handshake-ensures : (info peer : Lent (List ℕ)) → Result ℕ Refusal → Lent (List ℕ) → Type 0
handshake-ensures info peer r out = left (paper r) (now out.exit) ≡ put_of (handshake zeros (now info.entry) (now peer.entry)) 0 (now out.entry)
