-- What decides each answer of the frame reader, and of the handshake's. Assumes nothing: these are definitions.
use Rattle.std.specs.Prelude.{◌≡◌, ◌⊎◌, List, ℕ, ◌+◌, ◌≤◌, ◌<◌, length, get_or, take, drop}
use Rattle.refusal.specs.Limits.{longest_frame}
use Rattle.refusal.specs.Numbers.{frame, payload, protocol, hash, room}
use Rattle.refusal.specs.Paper.{Outcome, taken, refused}
use Rattle.peer_wire.specs.Message.{keepalive}
use Rattle.peer_wire.specs.Frames.{Allowed, Found, wait, found, number_in, message_in}
use Rattle.peer_wire.specs.Handshake.{Shaken, hello, name}
use Rattle.peer_wire.specs.Handshake.{wait as await}

-- the length that a frame names
abbrev pub named : List ℕ → ℕ
named s = number_in s 0

-- its four bytes are not all there
abbrev pub Few : List ℕ → Type 0
Few s = length s < 4

abbrev pub TooLong : List ℕ → Type 0
TooLong s = (4 ≤ length s) × (longest_frame < named s)

abbrev pub Zero : List ℕ → Type 0
Zero s = (4 ≤ length s) × (named s ≡ 0)

-- the length is there, and not all of the rest
abbrev pub Cut : List ℕ → Type 0
Cut s = (4 ≤ length s) × (0 < named s) × (named s ≤ longest_frame) × (length s < 4 + named s)

-- all of it is there
abbrev pub All : List ℕ → Type 0
All s = (0 < named s) × (named s ≤ longest_frame) × (4 + named s ≤ length s)

-- its id may have its length
abbrev pub Right : List ℕ → Type 0
Right s = Allowed (get_or s 4 0) (named s)

-- what decides an answer to the bytes s
abbrev pub Cause : List ℕ → Outcome Found → Type 0
Cause s (taken wait) = Few s ⊎ Cut s
Cause s (taken (found m used)) = (Zero s × (m ≡ keepalive) × (used ≡ 4)) ⊎ (All s × Right s × (m ≡ message_in s (named s)) × (used ≡ 4 + named s))
Cause s (refused n p) = (((n ≡ frame) × TooLong s) ⊎ ((n ≡ payload) × All s × (Right s → ⊥))) × (p ≡ 0)

-- byte i of the name is there and right; there and wrong
abbrev pub Same : List ℕ → ℕ → Type 0
Same s i = get_or name i 0 ≡ get_or s i 0

abbrev pub Named : List ℕ → Type 0
Named s = (i : ℕ) → i < 20 → i < length s → Same s i

abbrev pub Misnamed : List ℕ → Type 0
Misnamed s = (i : ℕ) × (i < 20) × (i < length s) × (Same s i → ⊥)

-- the info hash of a handshake
abbrev pub info_in : List ℕ → List ℕ
info_in s = take 20 (drop 28 s)

-- what decides an answer to the bytes s, for an info hash
abbrev pub ShakeCause : List ℕ → List ℕ → Outcome Shaken → Type 0
ShakeCause info s (taken await) = Named s × (length s < 68)
ShakeCause info s (taken (hello free peer used)) =
    (Named s × (68 ≤ length s) × (info_in s ≡ info))
    × (free ≡ record { from = 20; len = 8 }) × (peer ≡ record { from = 48; len = 20 }) × (used ≡ 68)
ShakeCause info s (refused n p) = (((n ≡ protocol) × Misnamed s) ⊎ ((n ≡ hash) × Named s × (68 ≤ length s) × (info_in s ≡ info → ⊥))) × (p ≡ 0)

-- what decides the answer of a frame writer, by what follows the length and the room lent: the bytes written, or a refusal
abbrev pub WriteCause : List ℕ → List ℕ → Outcome ℕ → Type 0
WriteCause rest o (taken n) = Allowed (get_or rest 0 0) (length rest) × (4 + length rest ≤ length o) × (n ≡ 4 + length rest)
WriteCause rest o (refused n p) =
    (((n ≡ frame) × (longest_frame < length rest))
    ⊎ (((n ≡ payload) × (length rest ≤ longest_frame) × (Allowed (get_or rest 0 0) (length rest) → ⊥))
    ⊎ ((n ≡ room) × Allowed (get_or rest 0 0) (length rest) × (length o < 4 + length rest))))
    × (p ≡ 0)
