-- What frames and handshakes say to C, in numbers. Assumes nothing: these are definitions.
use Rattle.std.specs.Prelude.{List, [], ◌∷◌, ℕ}
use Rattle.refusal.specs.Paper.{Outcome, taken, refused}
use Rattle.refusal.specs.declared.Part.{Part}
use Rattle.peer_wire.specs.Message.{Message, keepalive, choke, unchoke, interested, not_interested, have, bitfield, request, piece, cancel, other}
use Rattle.peer_wire.specs.Frames.{Found, wait, found}
use Rattle.peer_wire.specs.Handshake.{Shaken, hello}
use Rattle.peer_wire.specs.Handshake.{wait as awaited}

abbrev pub row : ℕ → ℕ → ℕ → ℕ → ℕ → ℕ → ℕ → ℕ → List ℕ
row kind used id p b l from len = kind ∷ used ∷ id ∷ p ∷ b ∷ l ∷ from ∷ len ∷ []

-- 1 for a keepalive and 2 for other frames; how many bytes were used; the id; piece, begin and length; first byte and length of what is carried
abbrev pub message_words : ℕ → Message Part → List ℕ
message_words used keepalive = row 1 used 0 0 0 0 0 0
message_words used choke = row 2 used 0 0 0 0 0 0
message_words used unchoke = row 2 used 1 0 0 0 0 0
message_words used interested = row 2 used 2 0 0 0 0 0
message_words used not_interested = row 2 used 3 0 0 0 0 0
message_words used (have p) = row 2 used 4 p 0 0 0 0
message_words used (bitfield x) = row 2 used 5 0 0 0 x.from x.len
message_words used (request p b l) = row 2 used 6 p b l 0 0
message_words used (piece p b x) = row 2 used 7 p b 0 x.from x.len
message_words used (cancel p b l) = row 2 used 8 p b l 0 0
message_words used (other id x) = row 2 used id 0 0 0 x.from x.len

-- a wait is answered by 255 alone, as a refusal without a place is
abbrev pub frame_told : Outcome Found → Outcome (List ℕ)
frame_told (taken wait) = refused 255 0
frame_told (taken (found m used)) = taken (message_words used m)
frame_told (refused n p) = refused n p

-- how many bytes were used, first byte and length of the free bytes and of the peer id; a wait as above
abbrev pub shake_told : Outcome Shaken → Outcome (List ℕ)
shake_told (taken awaited) = refused 255 0
shake_told (taken (hello free peer used)) = taken (used ∷ free.from ∷ free.len ∷ peer.from ∷ peer.len ∷ [])
shake_told (refused n p) = refused n p
