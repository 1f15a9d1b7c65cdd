-- One call on the yard's tables. Assumes nothing: these are definitions.
use Rattle.std.specs.Prelude.{Bool, cond, List, [], ℕ}
use Rattle.refusal.specs.Paper.{Outcome, taken, refused}
use Rattle.peer_wire.specs.Message as M
use Rattle.yard_tables.specs.Seats.{we_choke, we_want}
use Rattle.yard_tables.specs.Tables.{Yard, Out, at_seat}
use Rattle.yard_tables.specs.Frames.{feed_of}
use Rattle.yard_tables.specs.Seating.{start_of, lowest_free, sit_of, leave_of, mark_of}
use Rattle.yard_tables.specs.Rounds.{round_of}
use Rattle.yard_tables.specs.Looks.{lines_of, missing_of, scarcest_of, seat_of, has_of, count_of}

pub data Call : Type 0 where
  -- the number of pieces, the piece length, the last piece's length
  start : ℕ → ℕ → ℕ → Call
  sit : Call
  -- the seat
  leave : ℕ → Call
  -- the seat, and the bytes that came in
  feed : ℕ → List ℕ → Call
  -- the seat, our mark, and the room that is lent for the frame
  choke : ℕ → Bool → ℕ → Call
  interest : ℕ → Bool → ℕ → Call
  -- the first seat, and the room that is lent for lines
  missing : ℕ → ℕ → Call
  scarcest : Call
  -- a seat; a seat and a piece; a piece
  look : ℕ → Call
  has : ℕ → ℕ → Call
  count : ℕ → Call
  round : Call

-- what a call answers and leaves
unfoldable pub step : Call → Yard → Out
step (start pieces piece_length_of last_length_of) y = start_of pieces piece_length_of last_length_of y
step sit y = at_seat (lowest_free y.seats) (sit_of (lowest_free y.seats)) y
step (leave i) y = at_seat i (leave_of i) y
step (feed i s) y = at_seat i (feed_of i s) y
step (choke i b space) y = at_seat i (mark_of (we_choke b) space i) y
step (interest i b space) y = at_seat i (mark_of (we_want b) space i) y
step (missing first space) y = at_seat 0 (missing_of first space y.seats) y
step scarcest y = at_seat 0 scarcest_of y
step (look i) y = at_seat i (seat_of i) y
step (has i p) y = at_seat i (has_of i p) y
step (count p) y = at_seat 0 (count_of p) y
step round y = round_of y

-- the frames of our own marks
abbrev pub choke_frame : Bool → List ℕ
choke_frame b = M.encode (cond b M.choke M.unchoke)

abbrev pub interest_frame : Bool → List ℕ
interest_frame b = M.encode (cond b M.interested M.not_interested)

-- what a taken call writes into what is lent for it, from its start on
abbrev pub writes : Call → Yard → List ℕ
writes (start pieces piece_length_of last_length_of) y = []
writes sit y = []
writes (leave i) y = []
writes (feed i s) y = []
writes (choke i b space) y = choke_frame b
writes (interest i b space) y = interest_frame b
writes (missing first space) y = lines_of y.head.pieces first space y.seats
writes scarcest y = []
writes (look i) y = []
writes (has i p) y = []
writes (count p) y = []
writes round y = []

-- a refused call writes nothing
abbrev pub if_taken : {A : Type 0} → Outcome A → List ℕ → List ℕ
if_taken (taken a) l = l
if_taken (refused n p) l = []

abbrev pub written : Call → Yard → List ℕ
written c y = if_taken (step c y).answer (writes c y)
