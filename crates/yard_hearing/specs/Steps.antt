-- The steps by value, from which a frame's answer is put together: contracts of inner functions cite these. Assumes nothing: these are definitions.
-- They need not be believed: yard_hearing/proofs/Announcing.antt ties them to yard_tables/specs/Frames.antt.
use Rattle.std.specs.Prelude.{◌≡◌, Bool, ◌&&◌, ◌||◌, List, ℕ, ◌+◌, ◌*◌, ◌≤◌, ◌<◌, eqb, ltb, leb, length, Ok}
use Rattle.refusal.specs.Limits.{most_pieces, most_seats}
use Rattle.refusal.specs.declared.Part.{Part}
use Rattle.peer_wire.specs.Message.{Message, keepalive, choke, unchoke, interested, not_interested, have, bitfield, request, piece, cancel, other}
use Rattle.yard_tables.specs.Counting.{bit}
use Rattle.yard_tables.specs.Replies.{stepped}
use Rattle.yard_tables.specs.Rows.{width}
use Rattle.yard_tables.specs.Seats.{spoken, holding, counted}
use Rattle.yard_tables.specs.declared.Head.{Head}
use Rattle.yard_tables.specs.declared.Seat.{Seat}
use Rattle.yard_tables.specs.declared.Answer.TheVariants.{Taken}
use Rattle.yard_tables.specs.declared.Stepped.{Stepped}
use Rattle.yard_hearing.specs.declared.row.News.{News}

-- the sizes that the checks before leave: i is a seat, and the tables have its row and its pieces
pub record InTables (h : Head) (n i : ℕ) (rows holders : List ℕ) : Type 0 where
  pub few : h.pieces ≤ most_pieces
  pub seats : n ≤ most_seats
  pub seat : i < n
  pub row : length rows ≡ n * width h.pieces
  pub counts : length holders ≡ h.pieces

-- the bytes that a message speaks of lie in the text s
abbrev pub Inside : List ℕ → Message Part → Type 0
Inside s keepalive = Unit
Inside s choke = Unit
Inside s unchoke = Unit
Inside s interested = Unit
Inside s not_interested = Unit
Inside s (have p) = Unit
Inside s (bitfield bits) = bits.from + bits.len ≤ length s
Inside s (request p b l) = Unit
Inside s (piece p b block) = block.from + block.len ≤ length s
Inside s (cancel p b l) = Unit
Inside s (other id payload) = Unit

-- with the new pieces the truck comes to hold every piece
abbrev pub full : Head → Seat → News → Bool
full h s c = ltb 0 c.added && eqb (s.held + c.added) h.pieces

-- a count would pass its top
abbrev pub too_many : ℕ → Head → Seat → News → Bool
too_many n h s c = (ltb 0 c.added && ltb h.pieces (s.held + c.added)) || ((full h s c && leb n h.complete) || c.over)

-- the head and the seat with the new pieces
abbrev pub gained : Head → Seat → News → ℕ → Stepped
gained h s c used = stepped (counted h.taken (h.complete + bit (full h s c)) h) (holding (s.held + c.added) (spoken s)) (Ok (Taken used))
