-- What reading and writing a frame come to, in document 01's order. Assumes nothing: these are definitions.
use Rattle.refusal.specs.declared.Refusal.{Refusal}
use Rattle.std.specs.Prelude.{Bool, cond, ◌&&◌, List, [], ◌∷◌, ◌++◌, ℕ, zero, suc, ◌+◌, ◌-◌, ◌≤◌, leb, ltb, eqb, length, get_or, take, drop, Err, Ok, Result}
use Rattle.refusal.specs.BigEndian.{big_endian_of}
use Rattle.refusal.specs.Limits.{longest_frame}
use Rattle.refusal.specs.Numbers.{frame, payload}
use Rattle.refusal.specs.Paper.{Outcome, taken, refused, refusal}
use Rattle.refusal.specs.Parts.{bytes_at}
use Rattle.refusal.specs.declared.Part.{Part}
use Rattle.bencode_writer.specs.Put.{Left, left, put_of}
use Rattle.peer_wire.specs.Message.{Message, keepalive, choke, unchoke, interested, not_interested, have, bitfield, request, piece, cancel, other, body, framed, encode, FieldsFit}
use Rattle.peer_wire.specs.declared.Frame.{Frame}
use Rattle.peer_wire.specs.declared.Frame.TheVariants.{Choke, Unchoke, Interested, NotInterested, Have, Bitfield, Request, Piece, Cancel, Other}
use Rattle.peer_wire.specs.declared.Read.{Read}
use Rattle.peer_wire.specs.declared.Read.TheVariants.{Wait, Keepalive, Whole}

-- ---- lengths

-- the least and the most length of a frame, the length's own four bytes not counted, for the ids 0 to 8
abbrev pub leasts : List ℕ
leasts = 1 ∷ 1 ∷ 1 ∷ 1 ∷ 5 ∷ 2 ∷ 13 ∷ 10 ∷ 13 ∷ []

abbrev pub mosts : List ℕ
mosts = 1 ∷ 1 ∷ 1 ∷ 1 ∷ 5 ∷ 2049 ∷ 13 ∷ 16393 ∷ 13 ∷ []

-- and for every id
abbrev pub least : ℕ → ℕ
least id = get_or leasts id 1

abbrev pub most : ℕ → ℕ
most id = get_or mosts id longest_frame

-- whether a frame of this id may have this length
abbrev pub allowed : ℕ → ℕ → Bool
allowed id n = leb (least id) n && leb n (most id)

abbrev pub Allowed : ℕ → ℕ → Type 0
Allowed id n = (least id ≤ n) × (n ≤ most id)

-- what follows a frame's length is nothing, or it has a length that its id may have
abbrev pub Lengths : List ℕ → Type 0
Lengths [] = Unit
Lengths (id ∷ rest) = Allowed id (suc (length rest))

-- a message that may be sent
abbrev pub Keeps : Message (List ℕ) → Type 0
Keeps m = FieldsFit m × Lengths (body m)

-- ---- reading

-- more bytes are needed; or a message, its runs of bytes by where they lie, and how many bytes its frame used
pub data Found : Type 0 where
  wait : Found
  found : Message Part → ℕ → Found

-- the messages of the ids 0 to 8, by the numbers that stand k bytes into the payload, and the bytes from there on
abbrev pub messages : {B : Type 0} → (ℕ → ℕ) → (ℕ → B) → List (Message B)
messages number from =
    choke
    ∷ unchoke
    ∷ interested
    ∷ not_interested
    ∷ have (number 0)
    ∷ bitfield (from 0)
    ∷ request (number 0) (number 4) (number 8)
    ∷ piece (number 0) (number 4) (from 8)
    ∷ cancel (number 0) (number 4) (number 8)
    ∷ []

-- and of every id
unfoldable pub message_of : {B : Type 0} → (ℕ → ℕ) → (ℕ → B) → ℕ → Message B
message_of number from id = get_or (messages number from) id (other id (from 0))

-- the number in the four bytes at a place
abbrev pub number_in : List ℕ → ℕ → ℕ
number_in s at = big_endian_of (take 4 (drop at s))

-- the message of a frame of length n at the start of s: the length ends at 4, the id at 5
abbrev pub message_in : List ℕ → ℕ → Message Part
message_in s n = message_of (λ k. number_in s (5 + k)) (λ k. record { from = 5 + k; len = n - (1 + k) }) (get_or s 4 0)

-- the checks of a frame whose length n is known
unfoldable pub sized_of : List ℕ → ℕ → Outcome Found
sized_of s n =
    cond (ltb longest_frame n) (refused frame 0)
    (cond (eqb n 0) (taken (found keepalive 4))
    (cond (ltb (length s) (4 + n)) (taken wait)
    (cond (allowed (get_or s 4 0) n) (taken (found (message_in s n) (4 + n)))
    (refused payload 0))))

unfoldable pub read_of : List ℕ → Outcome Found
read_of s = cond (ltb (length s) 4) (taken wait) (sized_of s (number_in s 0))

-- the code's frame in these words
abbrev pub message : Frame → Message Part
message Choke = choke
message Unchoke = unchoke
message Interested = interested
message NotInterested = not_interested
message (Have p) = have p.0
message (Bitfield bits) = bitfield bits
message (Request p b l) = request p.0 b.0 l
message (Piece p b block) = piece p.0 b.0 block
message (Cancel p b l) = cancel p.0 b.0 l
message (Other id rest) = other id rest

-- and its answer
abbrev pub read_paper : Result Read Refusal → Outcome Found
read_paper (Ok Wait) = taken wait
read_paper (Ok (Keepalive used)) = taken (found keepalive used)
read_paper (Ok (Whole f used)) = taken (found (message f) used)
read_paper (Err r) = refusal r

-- ---- what a message that was found means

abbrev pub map : {A B : Type 0} → (A → B) → Message A → Message B
map f keepalive = keepalive
map f choke = choke
map f unchoke = unchoke
map f interested = interested
map f not_interested = not_interested
map f (have p) = have p
map f (bitfield bits) = bitfield (f bits)
map f (request p b l) = request p b l
map f (piece p b block) = piece p b (f block)
map f (cancel p b l) = cancel p b l
map f (other id rest) = other id (f rest)

-- the message with its bytes
abbrev pub meant : List ℕ → Message Part → Message (List ℕ)
meant s m = map (bytes_at s) m

-- the messages of a stream, and the bytes after the last of them
pub record Stream : Type 0 where
  pub messages : List (Message (List ℕ))
  pub after : List ℕ

-- what one answer adds: a message before what is read from its end on; a wait or a refusal adds nothing
abbrev pub onward : List ℕ → (ℕ → Stream) → Outcome Found → Stream
onward s later (taken (found m used)) = record { messages = meant s m ∷ (later used).messages; after = (later used).after }
onward s later (taken wait) = record { messages = []; after = s }
onward s later (refused n p) = record { messages = []; after = s }

-- at most k frames, read one after the other, each from where the one before ended
abbrev pub stream_of : ℕ → List ℕ → Stream
stream_of zero s = record { messages = []; after = s }
stream_of (suc k) s = onward s (λ used. stream_of k (drop used s)) (read_of s)

-- frames written one after the other
abbrev pub encode_all : List (Message (List ℕ)) → List ℕ
encode_all [] = []
encode_all (m ∷ ms) = encode m ++ encode_all ms

abbrev pub KeepAll : List (Message (List ℕ)) → Type 0
KeepAll [] = Unit
KeepAll (m ∷ ms) = Keeps m × KeepAll ms

-- ---- writing

-- what writing a frame leaves: what follows its length is checked by the reader's rules and order, then the room
unfoldable pub write_of : List ℕ → List ℕ → Left
write_of rest o =
    cond (ltb longest_frame (length rest)) (left (refused frame 0) o)
    (cond (allowed (get_or rest 0 0) (length rest)) (put_of (framed rest) 0 o)
    (left (refused payload 0) o))
