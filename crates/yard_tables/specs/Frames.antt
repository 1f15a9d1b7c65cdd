-- A frame for a seat. Assumes nothing: these are definitions.
use Rattle.std.specs.Prelude.{Bool, true, false, not, cond, ◌&&◌, ◌||◌, List, ℕ, ◌+◌, ◌*◌, eqb, ltb, leb, length, get_or}
use Rattle.refusal.specs.Paper.{Outcome, taken, refused}
use Rattle.refusal.specs.Numbers.{late, beyond, bitfield, spare, outside, damaged}
use Rattle.refusal.specs.Limits.{most_sent}
use Rattle.torrent_blocks.specs.Answers.{lies}
use Rattle.peer_wire.specs.Message.{Message, keepalive, choke, unchoke, interested, not_interested, have, request, piece, cancel, other}
use Rattle.peer_wire.specs.Frames.{Found, wait, found, read_of, meant}
use Rattle.yard_tables.specs.Counting.{bit, count, some, each}
use Rattle.yard_tables.specs.Rows.{width, bit_at, has_in, with_bit, with_bits}
use Rattle.yard_tables.specs.Seats.{on, spoken, they_choke, they_want, holding, having, counted}
use Rattle.yard_tables.specs.Tables.{Said, used, serve, dropped, Around, Turn, around, refuse, says, sized, sitting}
use Rattle.yard_tables.specs.declared.Head.{Head}
use Rattle.yard_tables.specs.declared.Seat.{Seat}

-- ---- pieces that a truck announces

-- piece p is announced by the truck of seat i, and was not before
abbrev pub is_new : ℕ → (ℕ → Bool) → Around → ℕ → Bool
is_new i said x p = said p && not (has_in (width x.head.pieces) x.rows i p)

-- how many such pieces there are
abbrev pub gain : ℕ → (ℕ → Bool) → Around → ℕ
gain i said x = count x.head.pieces (is_new i said x)

-- with them the truck comes to hold every piece
abbrev pub completes : ℕ → (ℕ → Bool) → Around → Bool
completes i said x = ltb 0 (gain i said x) && eqb (x.seat.held + gain i said x) x.head.pieces

-- a count that is to be raised would pass its top: the pieces held, the seats complete, a piece's holders; n is the number of seats
unfoldable pub over_top : ℕ → ℕ → (ℕ → Bool) → Around → Bool
over_top n i said x =
    (ltb 0 (gain i said x) && ltb x.head.pieces (x.seat.held + gain i said x))
    || ((completes i said x && leb n x.head.complete)
    || some x.head.pieces (λ p. is_new i said x p && leb n (get_or x.holders p 0)))

-- the counts with the new pieces, where rows are the rows as they then stand
unfoldable pub announced : ℕ → (ℕ → Bool) → List ℕ → Around → Around
announced i said rows x = record {
  head = counted x.head.taken (x.head.complete + bit (completes i said x)) x.head;
  seat = holding (x.seat.held + gain i said x) (spoken x.seat);
  rows = rows;
  holders = each (λ p k. k + bit (is_new i said x p)) x.holders;
}

abbrev pub announce : ℕ → ℕ → ℕ → (ℕ → Bool) → List ℕ → Around → Turn
announce n i bytes said rows x = cond (over_top n i said x) (refuse damaged x) (says (used bytes) (announced i said rows x))

-- have: piece p
unfoldable pub have_of : ℕ → ℕ → ℕ → ℕ → Around → Turn
have_of n i bytes p x =
    cond (ltb p x.head.pieces)
    (announce n i bytes (λ q. eqb q p) (with_bit (width x.head.pieces) i p x.rows) x)
    (refuse beyond x)

-- a bit is set past the last piece
abbrev pub spare_set : ℕ → List ℕ → Bool
spare_set pieces bits = some (8 * length bits) (λ p. leb pieces p && bit_at bits p)

-- bitfield: first of all frames with an id, of the right length, no spare bit
unfoldable pub bitfield_of : ℕ → ℕ → ℕ → List ℕ → Around → Turn
bitfield_of n i bytes bits x =
    cond (on x.seat.fresh)
    (cond (eqb (length bits) (width x.head.pieces))
    (cond (spare_set x.head.pieces bits) (refuse spare x)
    (announce n i bytes (bit_at bits) (with_bits (width x.head.pieces) i bits x.rows) x))
    (refuse bitfield x))
    (refuse late x)

-- ---- the other frames

-- the seat after a frame with an id that announces nothing
abbrev pub hears : (Seat → Seat) → Around → Around
hears f x = around x.head (spoken (f x.seat)) x.rows x.holders

abbrev pub passed : Around → Around
passed x = hears (λ s. s) x

-- the length of piece p
abbrev pub piece_size : Head → ℕ → ℕ
piece_size h p = cond (eqb (p + 1) h.pieces) h.last_length h.piece_length

-- a block has 1 to 16,384 bytes and ends within its piece
abbrev pub block_fits : Head → ℕ → ℕ → ℕ → Bool
block_fits h p begin len = lies (piece_size h p) begin len

-- a request or a cancel: a frame that speaks of a block
unfoldable pub block_of : ℕ → ℕ → ℕ → Said → Around → Turn
block_of p begin len a x =
    cond (ltb p x.head.pieces)
    (cond (block_fits x.head p begin len) (says a (passed x)) (refuse outside x))
    (refuse beyond x)

-- a piece: its block's bytes are counted, of which one truck sends at most 2^53 between rounds
unfoldable pub piece_of : ℕ → ℕ → ℕ → ℕ → Around → Turn
piece_of p begin len bytes x =
    cond (ltb p x.head.pieces)
    (cond (block_fits x.head p begin len)
    (cond (ltb most_sent (x.seat.bytes + len)) (refuse damaged x) (says (used bytes) (hears (having (x.seat.bytes + len)) x)))
    (refuse outside x))
    (refuse beyond x)

-- a request is served exactly if we don't choke and they are interested
abbrev pub requested : ℕ → Seat → Said
requested bytes s = cond (not (on s.am_choking) && on s.peer_interested) (serve bytes) (dropped bytes)

-- ---- by what the frame says: a keepalive says nothing

unfoldable pub message_of : ℕ → ℕ → ℕ → Message (List ℕ) → Around → Turn
message_of n i bytes keepalive x = says (used bytes) x
message_of n i bytes choke x = says (used bytes) (hears (they_choke true) x)
message_of n i bytes unchoke x = says (used bytes) (hears (they_choke false) x)
message_of n i bytes interested x = says (used bytes) (hears (they_want true) x)
message_of n i bytes not_interested x = says (used bytes) (hears (they_want false) x)
message_of n i bytes (have p) x = have_of n i bytes p x
message_of n i bytes (Message.bitfield bits) x = bitfield_of n i bytes bits x
message_of n i bytes (request p b l) x = block_of p b l (requested bytes x.seat) x
message_of n i bytes (piece p b block) x = piece_of p b (length block) bytes x
message_of n i bytes (cancel p b l) x = block_of p b l (used bytes) x
message_of n i bytes (other id payload) x = says (used bytes) (passed x)

-- the frame's own refusals and its wait come first
abbrev pub frame_of : ℕ → ℕ → List ℕ → Outcome Found → Around → Turn
frame_of n i s (refused number place) x = refuse number x
frame_of n i s (taken wait) x = says Said.wait x
frame_of n i s (taken (found m bytes)) x = message_of n i bytes (meant s m) x

-- the bytes s for seat i of n
unfoldable pub feed_of : ℕ → List ℕ → ℕ → Around → Turn
feed_of i s n x = sized n x (sitting i n x (frame_of n i s (read_of s) x))
