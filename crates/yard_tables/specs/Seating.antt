-- Starting, sitting down, leaving, and our own marks. Assumes nothing: these are definitions.
use Rattle.std.specs.Prelude.{Bool, cond, ◌&&◌, ◌||◌, List, [], ◌∷◌, ℕ, suc, ◌+◌, ◌-◌, eqb, ltb, leb, length, get_or, replicate}
use Rattle.refusal.specs.Paper.{taken, refused}
use Rattle.refusal.specs.Numbers.{full, room, sizes, damaged}
use Rattle.yard_tables.specs.Counting.{bit, some, each}
use Rattle.yard_tables.specs.Rows.{width, has_in, without_bits}
use Rattle.yard_tables.specs.Seats.{on, cleared, arrived, counted, placed}
use Rattle.yard_tables.specs.Tables.{Yard, done, seated, wrote, Around, Turn, around, refuse, says, sizes_fit, sized, sitting, Out}
use Rattle.yard_tables.specs.Rounds.{nobody}
use Rattle.yard_tables.specs.declared.Head.{Head}
use Rattle.yard_tables.specs.declared.Seat.{Seat}

-- a yard of these sizes with nobody in it, in the tables of y
abbrev pub emptied : ℕ → ℕ → ℕ → Yard → Yard
emptied pieces piece_length_of last_length_of y = record {
  head = record { pieces = pieces; piece_length = piece_length_of; last_length = last_length_of; taken = 0; complete = 0; round = 0; free = nobody; last = length y.seats - 1 };
  seats = replicate (length y.seats) cleared;
  rows = replicate (length y.rows) 0;
  holders = replicate (length y.holders) 0;
}

unfoldable pub start_of : ℕ → ℕ → ℕ → Yard → Out
start_of pieces piece_length_of last_length_of y =
    cond (sizes_fit (emptied pieces piece_length_of last_length_of y).head (length y.seats) (length y.rows) (length y.holders))
    (record { answer = taken done; yard = emptied pieces piece_length_of last_length_of y })
    (record { answer = refused sizes 0; yard = y })

-- the lowest free seat, or the number of seats
unfoldable pub lowest_free : List Seat → ℕ
lowest_free [] = 0
lowest_free (s ∷ ss) = let k : ℕ = suc (lowest_free ss) in cond (on s.taken) k 0

-- a truck sits down at seat i of n
unfoldable pub seated_at : ℕ → Around → Around
seated_at i x = around (counted (x.head.taken + 1) x.head.complete x.head) arrived (without_bits (width x.head.pieces) i x.rows) x.holders

unfoldable pub sit_of : ℕ → ℕ → Around → Turn
sit_of i n x =
    sized n x
    (cond (leb n i) (refuse full x)
    (cond (leb n x.head.taken) (refuse damaged x)
    (says (seated i) (seated_at i x))))

-- the truck of seat i holds every piece
abbrev pub is_complete : Around → Bool
is_complete x = eqb x.seat.held x.head.pieces

-- a count that its leaving lowers is 0: the seats taken, the seats complete, a piece's holders
unfoldable pub at_zero_of : ℕ → Around → Bool
at_zero_of i x =
    eqb x.head.taken 0
    || ((is_complete x && eqb x.head.complete 0)
    || some x.head.pieces (λ p. has_in (width x.head.pieces) x.rows i p && eqb (get_or x.holders p 0) 0))

-- who leaves gives the free place up
abbrev pub given_up : ℕ → Head → Head
given_up i h = placed h.round (cond (eqb h.free i) nobody h.free) h.last h

unfoldable pub left : ℕ → Around → Around
left i x = record {
  head = counted (x.head.taken - 1) (x.head.complete - bit (is_complete x)) (given_up i x.head);
  seat = cleared;
  rows = without_bits (width x.head.pieces) i x.rows;
  holders = each (λ p k. k - bit (has_in (width x.head.pieces) x.rows i p)) x.holders;
}

unfoldable pub leave_of : ℕ → ℕ → Around → Turn
leave_of i n x = sized n x (sitting i n x (cond (at_zero_of i x) (refuse damaged x) (says done (left i x))))

-- one of our own marks, for which a frame of 5 bytes is written into the room that is lent
unfoldable pub mark_of : (Seat → Seat) → ℕ → ℕ → ℕ → Around → Turn
mark_of f space i n x =
    sized n x (sitting i n x
    (cond (ltb space 5) (refuse room x)
    (says (wrote 5) (around x.head (f x.seat) x.rows x.holders))))
