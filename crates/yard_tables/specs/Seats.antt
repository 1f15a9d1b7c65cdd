-- Seats and heads, and one field of them changed. Assumes nothing: these are definitions.
use Rattle.std.specs.Prelude.{ℕ, Bool, not, eqb}
use Rattle.yard_tables.specs.Counting.{bit}
use Rattle.yard_tables.specs.declared.Head.{Head}
use Rattle.yard_tables.specs.declared.Seat.{Seat}

-- a flag is on where it is not 0; `bit` of a truth is what the yard writes
abbrev pub on : ℕ → Bool
on flag = not (eqb flag 0)

-- a seat as clearing leaves it: nothing in it, marks off
abbrev pub cleared : Seat
cleared = record { taken = 0; fresh = 0; am_choking = 0; am_interested = 0; peer_choking = 0; peer_interested = 0; held = 0; bytes = 0 }

-- the seat of a truck that sits down: fresh, both sides choking and uninterested
abbrev pub arrived : Seat
arrived = record { taken = 1; fresh = 1; am_choking = 1; am_interested = 0; peer_choking = 1; peer_interested = 0; held = 0; bytes = 0 }

-- a frame with an id was taken: the seat is no longer fresh
abbrev pub spoken : Seat → Seat
spoken s = record { taken = s.taken; fresh = 0; am_choking = s.am_choking; am_interested = s.am_interested; peer_choking = s.peer_choking; peer_interested = s.peer_interested; held = s.held; bytes = s.bytes }

-- with another mark
abbrev pub we_choke : Bool → Seat → Seat
we_choke b s = record { taken = s.taken; fresh = s.fresh; am_choking = bit b; am_interested = s.am_interested; peer_choking = s.peer_choking; peer_interested = s.peer_interested; held = s.held; bytes = s.bytes }

abbrev pub we_want : Bool → Seat → Seat
we_want b s = record { taken = s.taken; fresh = s.fresh; am_choking = s.am_choking; am_interested = bit b; peer_choking = s.peer_choking; peer_interested = s.peer_interested; held = s.held; bytes = s.bytes }

abbrev pub they_choke : Bool → Seat → Seat
they_choke b s = record { taken = s.taken; fresh = s.fresh; am_choking = s.am_choking; am_interested = s.am_interested; peer_choking = bit b; peer_interested = s.peer_interested; held = s.held; bytes = s.bytes }

abbrev pub they_want : Bool → Seat → Seat
they_want b s = record { taken = s.taken; fresh = s.fresh; am_choking = s.am_choking; am_interested = s.am_interested; peer_choking = s.peer_choking; peer_interested = bit b; held = s.held; bytes = s.bytes }

-- with so many pieces
abbrev pub holding : ℕ → Seat → Seat
holding k s = record { taken = s.taken; fresh = s.fresh; am_choking = s.am_choking; am_interested = s.am_interested; peer_choking = s.peer_choking; peer_interested = s.peer_interested; held = k; bytes = s.bytes }

-- with so many bytes of blocks
abbrev pub having : ℕ → Seat → Seat
having k s = record { taken = s.taken; fresh = s.fresh; am_choking = s.am_choking; am_interested = s.am_interested; peer_choking = s.peer_choking; peer_interested = s.peer_interested; held = s.held; bytes = k }

-- a head of the same sizes and the same free place, with so many seats taken and so many complete
abbrev pub counted : ℕ → ℕ → Head → Head
counted t c h = record { pieces = h.pieces; piece_length = h.piece_length; last_length = h.last_length; taken = t; complete = c; round = h.round; free = h.free; last = h.last }

-- with this round number, free place and last one
abbrev pub placed : ℕ → ℕ → ℕ → Head → Head
placed r f l h = record { pieces = h.pieces; piece_length = h.piece_length; last_length = h.last_length; taken = h.taken; complete = h.complete; round = r; free = f; last = l }
