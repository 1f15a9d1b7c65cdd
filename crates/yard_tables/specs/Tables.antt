-- The yard's tables, what a call says, and the checks that calls share. Assumes nothing: these are definitions.
use Rattle.refusal.specs.declared.Refusal.{Refusal}
use Rattle.std.specs.Prelude.{Bool, cond, ◌&&◌, List, [], ◌∷◌, ℕ, ◌*◌, eqb, ltb, leb, length, get_or, set, Err, Ok, Result}
use Rattle.refusal.specs.Paper.{Outcome, taken, refused, refusal}
use Rattle.refusal.specs.Numbers.{seat, sizes}
use Rattle.refusal.specs.Limits.{most_pieces, most_seats}
use Rattle.torrent_blocks.specs.Rules.{piece_length_of}
use Rattle.yard_tables.specs.Counting.{every}
use Rattle.yard_tables.specs.Rows.{width}
use Rattle.yard_tables.specs.Seats.{on, cleared}
use Rattle.yard_tables.specs.declared.Head.{Head}
use Rattle.yard_tables.specs.declared.Seat.{Seat}
use Rattle.yard_tables.specs.declared.Page.{Page}
use Rattle.yard_tables.specs.declared.Stepped.{Stepped}
use Rattle.yard_tables.specs.declared.Answer.{Answer}
use Rattle.yard_tables.specs.declared.Answer.TheVariants.{Wait, Done, Taken, Serve, Dropped, Seated, Wrote, Listed, Record, Holds, Holders, Piece, Unchoked}

pub record Yard : Type 0 where
  pub head : Head
  pub seats : List Seat
  pub rows : List ℕ
  pub holders : List ℕ

-- what a call says that is not refused: that more bytes are needed; that it is done; the bytes that a frame used, a request to be
-- served or dropped among them; the seat that was given; the bytes written; a page's lines, total and next; what was looked at; how many trucks a round unchokes
pub data Said : Type 0 where
  wait : Said
  done : Said
  used : ℕ → Said
  serve : ℕ → Said
  dropped : ℕ → Said
  seated : ℕ → Said
  wrote : ℕ → Said
  listed : Page → Said
  shows : Seat → Said
  holds : Bool → Said
  held_by_of : ℕ → Said
  scarce : ℕ → Said
  unchoked : ℕ → Said

-- the code's answer in these words
abbrev pub paper : Result Answer Refusal → Outcome Said
paper (Err r) = refusal r
paper (Ok Wait) = taken wait
paper (Ok Done) = taken done
paper (Ok (Taken n)) = taken (used n)
paper (Ok (Serve n)) = taken (serve n)
paper (Ok (Dropped n)) = taken (dropped n)
paper (Ok (Seated i)) = taken (seated i)
paper (Ok (Wrote n)) = taken (wrote n)
paper (Ok (Listed x)) = taken (listed x)
paper (Ok (Record s)) = taken (shows s)
paper (Ok (Holds b)) = taken (holds b)
paper (Ok (Holders n)) = taken (held_by_of n)
paper (Ok (Piece p)) = taken (scarce p)
paper (Ok (Unchoked n)) = taken (unchoked n)

-- ---- a call at one seat

-- one seat taken out, and the tables around it
pub record Around : Type 0 where
  pub head : Head
  pub seat : Seat
  pub rows : List ℕ
  pub holders : List ℕ

-- what such a call answers, and what it leaves
pub record Turn : Type 0 where
  pub answer : Outcome Said
  pub after : Around

abbrev pub around : Head → Seat → List ℕ → List ℕ → Around
around h s rows holders = record { head = h; seat = s; rows = rows; holders = holders }

-- the code's step in these words, with the rows and the holder counts that it leaves
abbrev pub turn : Stepped → List ℕ → List ℕ → Turn
turn r rows holders = record { answer = paper r.answer; after = around r.head r.seat rows holders }

-- a refusal leaves everything as it was
abbrev pub refuse : ℕ → Around → Turn
refuse number x = record { answer = refused number 0; after = x }

-- and so does an answer that changes nothing
abbrev pub says : Said → Around → Turn
says a x = record { answer = taken a; after = x }

-- a head's sizes are legal, and fit so many seats, row bytes and holder counts
unfoldable pub sizes_fit : Head → ℕ → ℕ → ℕ → Bool
sizes_fit h seats rows holders = every
    (leb 1 h.pieces
    ∷ leb h.pieces most_pieces
    ∷ leb 1 seats
    ∷ leb seats most_seats
    ∷ piece_length_of h.piece_length
    ∷ leb 1 h.last_length
    ∷ leb h.last_length h.piece_length
    ∷ eqb rows (seats * width h.pieces)
    ∷ eqb holders h.pieces
    ∷ [])

-- checked first in every call: the sizes, for n seats
abbrev pub sized : ℕ → Around → Turn → Turn
sized n x t = cond (sizes_fit x.head n (length x.rows) (length x.holders)) t (refuse sizes x)

-- then, where a truck must sit there, the seat i of n
abbrev pub sitting : ℕ → ℕ → Around → Turn → Turn
sitting i n x t = cond (ltb i n && on x.seat.taken) t (refuse seat x)

-- ---- the whole yard

-- a call's answer, and the yard that it leaves
pub record Out : Type 0 where
  pub answer : Outcome Said
  pub yard : Yard

abbrev pub yard_of : Head → List Seat → List ℕ → List ℕ → Yard
yard_of h seats rows holders = record { head = h; seats = seats; rows = rows; holders = holders }

-- the code's answer in these words, with the tables that it leaves
abbrev pub out : Result Answer Refusal → Head → List Seat → List ℕ → List ℕ → Out
out r h seats rows holders = record { answer = paper r; yard = yard_of h seats rows holders }

-- what a call at seat i of the yard leaves: the seat is put back, and nothing is where there is no such seat
abbrev pub at_seat : ℕ → (ℕ → Around → Turn) → Yard → Out
at_seat i f y =
    let t : Turn = f (length y.seats) (around y.head (get_or y.seats i cleared) y.rows y.holders) in
    record { answer = t.answer; yard = record { head = t.after.head; seats = set y.seats i t.after.seat; rows = t.after.rows; holders = t.after.holders } }
