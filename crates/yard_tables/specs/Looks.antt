-- The missing list, the scarcest piece, and single looks. Assumes nothing: these are definitions.
use Rattle.std.specs.Prelude.{Bool, not, cond, ◌&&◌, List, [], ◌∷◌, ℕ, suc, min, eqb, ltb, leb, length, get_or, take, drop}
use Rattle.refusal.specs.Numbers.{seat, beyond}
use Rattle.yard_tables.specs.Rows.{width, has_in}
use Rattle.yard_tables.specs.Seats.{on}
use Rattle.yard_tables.specs.Tables.{listed, shows, holds, held_by_of, scarce, Around, Turn, refuse, says, sized}
use Rattle.yard_tables.specs.declared.Seat.{Seat}
use Rattle.yard_tables.specs.declared.Page.{Page}

-- ---- the missing list

-- a truck sits there and lacks a piece
abbrev pub is_missing : ℕ → Seat → Bool
is_missing pieces s = on s.taken && not (eqb s.held pieces)

-- the seats of those, where the first seat is number k
unfoldable pub missing_from : ℕ → ℕ → List Seat → List ℕ
missing_from pieces k [] = []
missing_from pieces k (s ∷ ss) = let r : List ℕ = missing_from pieces (suc k) ss in cond (is_missing pieces s) (k ∷ r) r

-- those at or after a first seat
abbrev pub missing_at_of : ℕ → ℕ → List Seat → List ℕ
missing_at_of pieces first seats = missing_from pieces first (drop first seats)

-- the lines of a page: as many as it has room for
abbrev pub lines_of : ℕ → ℕ → ℕ → List Seat → List ℕ
lines_of pieces first space seats = take space (missing_at_of pieces first seats)

-- the first of a list, or n where it is empty
abbrev pub first_or : ℕ → List ℕ → ℕ
first_or n [] = n
first_or n (i ∷ is) = i

-- the page: its lines, the missing of the whole yard, and the next that is not listed
unfoldable pub page_of : ℕ → ℕ → ℕ → List Seat → Page
page_of pieces first space seats = record {
  written = length (lines_of pieces first space seats);
  total = length (missing_from pieces 0 seats);
  next = first_or (length seats) (drop space (missing_at_of pieces first seats));
}

abbrev pub missing_of : ℕ → ℕ → List Seat → ℕ → Around → Turn
missing_of first space seats n x = sized n x (cond (leb first n) (says (listed (page_of x.head.pieces first space seats)) x) (refuse seat x))

-- ---- the scarcest piece

-- the smallest of some numbers
unfoldable pub fewest : List ℕ → ℕ
fewest [] = 0
fewest (k ∷ []) = k
fewest (k ∷ l ∷ ks) = min k (fewest (l ∷ ks))

-- the place where a number first stands
unfoldable pub place_of : ℕ → List ℕ → ℕ
place_of m [] = 0
place_of m (k ∷ ks) = let r : ℕ = suc (place_of m ks) in cond (eqb k m) 0 r

-- the smallest number among the pieces with fewest holders
unfoldable pub scarcest_of : ℕ → Around → Turn
scarcest_of n x = sized n x (says (scarce (place_of (fewest x.holders) x.holders)) x)

-- ---- single looks

-- the record of seat i
unfoldable pub seat_of : ℕ → ℕ → Around → Turn
seat_of i n x = sized n x (cond (ltb i n) (says (shows x.seat) x) (refuse seat x))

-- whether the truck of seat i has piece p
unfoldable pub has_of : ℕ → ℕ → ℕ → Around → Turn
has_of i p n x =
    sized n x
    (cond (ltb i n)
    (cond (ltb p x.head.pieces) (says (holds (has_in (width x.head.pieces) x.rows i p)) x) (refuse beyond x))
    (refuse seat x))

-- how many trucks hold piece p
unfoldable pub count_of : ℕ → ℕ → Around → Turn
count_of p n x = sized n x (cond (ltb p x.head.pieces) (says (held_by_of (get_or x.holders p 0)) x) (refuse beyond x))
