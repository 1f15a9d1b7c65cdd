-- Demand 1 of `peer_wire`: frames and the handshake, read. Assumes nothing.
use Rattle.refusal.specs.declared.Refusal.{Refusal}
use Rattle.std.specs.Prelude.{List, ◌≡◌, ℕ, Result}
use Rattle.peer_wire.specs.Frames.{read_of, read_paper}
use Rattle.peer_wire.specs.Handshake.{greeting_paper, shake_of}
use Rattle.peer_wire.specs.declared.Greeting.{Greeting}
use Rattle.peer_wire.specs.declared.Read.{Read}
use Rattle.demands.specs.One.{Lent, now}

-- peer_wire::read_frame
abbrev pub read_frame-ensures : (bytes : Lent (List ℕ)) → Result Read Refusal → Type 0
read_frame-ensures bytes r = read_paper r ≡ read_of (now bytes.entry)

-- peer_wire::read_handshake
abbrev pub read_handshake-ensures : (bytes info : Lent (List ℕ)) → Result Greeting Refusal → Type 0
read_handshake-ensures bytes info r = greeting_paper r ≡ shake_of (now info.entry) (now bytes.entry)
