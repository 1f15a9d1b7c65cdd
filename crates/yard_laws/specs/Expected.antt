-- The one answer to each call where no count of the tables is damaged, computed: the checks in document 01's order, over a view of the yard; and by the history. A reader need not believe
-- it: when each answer is given, and what is written, is said in Causes.antt and Given.antt. Assumes nothing: these are definitions.
use Rattle.std.specs.Prelude.{Bool, not, cond, ◌&&◌, List, [], ◌∷◌, ℕ, zero, suc, ◌+◌, ◌-◌, eqb, ltb, leb, length, take}
use Rattle.refusal.specs.Paper.{Outcome, taken, refused}
use Rattle.refusal.specs.Numbers.{late, beyond, bitfield, spare, outside, full, seat, room, sizes, damaged}
use Rattle.refusal.specs.Limits.{most_sent}
use Rattle.torrent_blocks.specs.Rules.{piece_length_of}
use Rattle.torrent_blocks.specs.Answers.{lies}
use Rattle.peer_wire.specs.Message.{Message, keepalive, choke, unchoke, interested, not_interested, have, request, piece, cancel, other}
use Rattle.peer_wire.specs.Message.{bitfield as bits}
use Rattle.peer_wire.specs.Frames.{Found, found, read_of, meant}
use Rattle.peer_wire.specs.Frames.{wait as more}
use Rattle.yard_tables.specs.Rows.{width}
use Rattle.yard_tables.specs.Frames.{spare_set}
use Rattle.yard_tables.specs.Tables.{Said, wait, done, used, serve, dropped, seated, wrote, listed, shows, holds, held_by_of, scarce, unchoked}
use Rattle.yard_tables.specs.Step.{Call, start, sit, leave, feed, interest, missing, scarcest, look, has, count, round, choke_frame, interest_frame, if_taken}
use Rattle.yard_tables.specs.Step.{choke as chokes}
use Rattle.yard_tables.specs.declared.Page.{Page}
use Rattle.yard_tables.specs.declared.Seat.{Seat}
use Rattle.yard_laws.specs.History.{History, Fixed, Sizes, sizes_of, pieces}
use Rattle.yard_laws.specs.View.{View, by_history}
use Rattle.yard_laws.specs.Says.{has_piece, lacking, record_of, holders, unchokes, page_of}

-- ---- what is found by going through numbers

-- those of the m numbers from k on that have f, ascending
unfoldable pub those : (ℕ → Bool) → ℕ → ℕ → List ℕ
those f k zero = []
those f k (suc m) = let r : List ℕ = those f (suc k) m in cond (f k) (k ∷ r) r

-- the lowest k below n that lacks f, or n
unfoldable pub lowest_without : (ℕ → Bool) → ℕ → ℕ
lowest_without f zero = 0
lowest_without f (suc n) = let k : ℕ = lowest_without f n in cond (ltb k n) k (cond (f n) (suc n) n)

-- the smallest k below n where f is least
unfoldable pub least_of : (ℕ → ℕ) → ℕ → ℕ
least_of f zero = 0
least_of f (suc n) = let k : ℕ = least_of f n in cond (ltb (f n) (f k)) n k

-- ---- answers

abbrev pub no : ℕ → Outcome Said
no number = refused number 0

-- what the looks find, where nothing is wrong with them: a page by its first seat and room, the scarcest piece, a seat's record, whether the truck of a seat has a
-- piece, and how many trucks hold one; and how many a round unchokes
pub record Looks : Type 0 where
  pub page : ℕ → ℕ → Page
  pub scarcest_piece : ℕ
  pub record_at : ℕ → Seat
  pub has_it : ℕ → ℕ → Bool
  pub held : ℕ → ℕ
  pub unchokes : ℕ

module _ (v : View) where
  -- a truck sits at seat i
  abbrev pub sits_by : ℕ → Bool
  sits_by i = ltb i v.seats && v.sits_at i

  -- ---- a frame of the truck of seat i

  -- one that speaks of a block, which has 1 to 16,384 bytes and ends within its piece
  abbrev pub block_by : ℕ → ℕ → ℕ → Said → Outcome Said
  block_by p begin len a = cond (ltb p v.pieces) (cond (lies (v.longs p) begin len) (taken a) (no outside)) (no beyond)

  -- a piece: with it its truck may have sent at most 2^53 bytes of blocks since the last round
  abbrev pub piece_by : ℕ → ℕ → ℕ → ℕ → ℕ → Outcome Said
  piece_by i p begin len bytes =
      cond (ltb p v.pieces) (cond (lies (v.longs p) begin len) (cond (ltb most_sent (v.bytes i + len)) (no damaged) (taken (used bytes))) (no outside)) (no beyond)

  -- a request is served exactly if we don't choke the truck and it is interested
  abbrev pub request_by : ℕ → ℕ → Said
  request_by i bytes = cond (not (v.choked i) && v.interested i) (serve bytes) (dropped bytes)

  -- a message in a frame of so many bytes
  abbrev pub message_by : ℕ → ℕ → Message (List ℕ) → Outcome Said
  message_by i bytes keepalive = taken (used bytes)
  message_by i bytes choke = taken (used bytes)
  message_by i bytes unchoke = taken (used bytes)
  message_by i bytes interested = taken (used bytes)
  message_by i bytes not_interested = taken (used bytes)
  message_by i bytes (have p) = cond (ltb p v.pieces) (taken (used bytes)) (no beyond)
  message_by i bytes (bits b) =
      cond (v.silent i)
      (cond (eqb (length b) (width v.pieces))
      (cond (spare_set v.pieces b) (no spare) (taken (used bytes)))
      (no bitfield))
      (no late)
  message_by i bytes (request p b l) = block_by p b l (request_by i bytes)
  message_by i bytes (piece p b block) = piece_by i p b (length block) bytes
  message_by i bytes (cancel p b l) = block_by p b l (used bytes)
  message_by i bytes (other id payload) = taken (used bytes)

  -- the frame's own refusals and its wait come first
  abbrev pub frame_by : ℕ → List ℕ → Outcome Found → Outcome Said
  frame_by i s (refused number place) = no number
  frame_by i s (taken more) = taken wait
  frame_by i s (taken (found m bytes)) = message_by i bytes (meant s m)

  -- ---- every call

  -- our own mark, with so much room for its frame
  abbrev pub mark_by : ℕ → ℕ → Outcome Said
  mark_by i space = cond (sits_by i) (cond (ltb space 5) (no room) (taken (wrote 5))) (no seat)

  -- the lowest free seat, or how many there are
  abbrev pub free_by : ℕ
  free_by = lowest_without v.sits_at v.seats

  -- starts: the sizes that a start may have
  abbrev pub answer_by : (Sizes → Bool) → Looks → Call → Outcome Said
  answer_by starts x (start p l k) = cond (starts (sizes_of p l k)) (taken done) (no sizes)
  answer_by starts x sit = cond (leb v.seats free_by) (no full) (taken (seated free_by))
  answer_by starts x (leave i) = cond (sits_by i) (taken done) (no seat)
  answer_by starts x (feed i s) = cond (sits_by i) (frame_by i s (read_of s)) (no seat)
  answer_by starts x (chokes i b space) = mark_by i space
  answer_by starts x (interest i b space) = mark_by i space
  answer_by starts x (missing first space) = cond (leb first v.seats) (taken (listed (x.page first space))) (no seat)
  answer_by starts x scarcest = taken (scarce x.scarcest_piece)
  answer_by starts x (look i) = cond (ltb i v.seats) (taken (shows (x.record_at i))) (no seat)
  answer_by starts x (has i p) = cond (ltb i v.seats) (cond (ltb p v.pieces) (taken (holds (x.has_it i p))) (no beyond)) (no seat)
  answer_by starts x (count p) = cond (ltb p v.pieces) (taken (held_by_of (x.held p))) (no beyond)
  answer_by starts x round = taken (unchoked x.unchokes)

-- ---- by the history

-- a further start: as many pieces as the tables have, legal lengths
abbrev pub start_fits_of : History → Sizes → Bool
start_fits_of h z = eqb z.pieces (pieces h) && (piece_length_of z.piece_length_of && (leb 1 z.last_length_of && leb z.last_length_of z.piece_length_of))

-- the trucks that lack a piece, from a first seat on
abbrev pub missing_from : Fixed → History → ℕ → List ℕ
missing_from fixed h first = those (lacking h) first (fixed.seats - first)

abbrev pub page_from : Fixed → History → ℕ → ℕ → Page
page_from fixed h first space = page_of fixed h space (missing_from fixed h first)

abbrev pub looks_of : Fixed → History → Looks
looks_of fixed h = record {
  page = page_from fixed h;
  scarcest_piece = least_of (holders fixed h) (pieces h);
  record_at = record_of fixed h;
  has_it = has_piece h;
  held = holders fixed h;
  unchokes = unchokes fixed h;
}

abbrev pub answer : Fixed → History → Call → Outcome Said
answer fixed h c = answer_by (by_history fixed h) (start_fits_of h) (looks_of fixed h) c

-- what it writes where it is taken: our mark's frame, a page's lines
abbrev pub writes : Fixed → History → Call → List ℕ
writes fixed h (start p l k) = []
writes fixed h sit = []
writes fixed h (leave i) = []
writes fixed h (feed i s) = []
writes fixed h (chokes i b space) = choke_frame b
writes fixed h (interest i b space) = interest_frame b
writes fixed h (missing first space) = take space (missing_from fixed h first)
writes fixed h scarcest = []
writes fixed h (look i) = []
writes fixed h (has i p) = []
writes fixed h (count p) = []
writes fixed h round = []

abbrev pub output : Fixed → History → Call → List ℕ
output fixed h c = if_taken (answer fixed h c) (writes fixed h c)
