-- What a history says of a yard, of which some things are fixed: its counts, and who is on the missing list. Assumes nothing: these are definitions.
use Rattle.std.specs.Prelude.{◌≡◌, ◌↔◌, Bool, true, false, not, ◌&&◌, ℕ, zero, suc, ◌≤◌, ◌<◌, length, take, drop}
use mathlib.Core.List.{List, [], ◌∷◌, Memᴰ as In}
use Rattle.yard_tables.specs.Counting.{bit, count, some}
use Rattle.yard_tables.specs.Looks.{first_or}
use Rattle.yard_tables.specs.declared.Head.{Head}
use Rattle.yard_tables.specs.declared.Seat.{Seat}
use Rattle.yard_tables.specs.declared.Page.{Page}
use Rattle.yard_laws.specs.History.{History, Fixed, seated, announced, fresh, we_are_choking, we_are_interested, they_are_choking, they_are_interested, sent, round_number, free_place, last_place, served_at, sizes_set, pieces}

-- every k below n has f
abbrev pub all_of : ℕ → (ℕ → Bool) → Bool
all_of zero f = true
all_of (suc n) f = all_of n f && f n

-- ---- one truck

-- a truck sits at seat i and has announced piece p since it sat down
abbrev pub has_piece : History → ℕ → ℕ → Bool
has_piece h i p = seated h i && announced h i p

-- how many pieces the truck of seat i has
abbrev pub held : History → ℕ → ℕ
held h i = count (pieces h) (has_piece h i)

-- it has announced every piece
abbrev pub loaded : History → ℕ → Bool
loaded h i = seated h i && all_of (pieces h) (announced h i)

-- it lacks a piece: there is one that it has not announced
abbrev pub lacking : History → ℕ → Bool
lacking h i = seated h i && some (pieces h) (λ p. not (announced h i p))

-- all that is to be known of seat i
abbrev pub record_of : Fixed → History → ℕ → Seat
record_of fixed h i = record {
  taken = bit (seated h i);
  fresh = bit (fresh h i);
  am_choking = bit (we_are_choking fixed h i);
  am_interested = bit (we_are_interested h i);
  peer_choking = bit (they_are_choking h i);
  peer_interested = bit (they_are_interested h i);
  held = held h i;
  bytes = sent h i;
}

-- ---- counts over the seats

-- how many trucks have piece p
abbrev pub holders : Fixed → History → ℕ → ℕ
holders fixed h p = count fixed.seats (λ i. has_piece h i p)

abbrev pub taken_seats : Fixed → History → ℕ
taken_seats fixed h = count fixed.seats (seated h)

abbrev pub complete_seats : Fixed → History → ℕ
complete_seats fixed h = count fixed.seats (loaded h)

abbrev pub head_of : Fixed → History → Head
head_of fixed h = record {
  pieces = pieces h;
  piece_length = (sizes_set h).piece_length_of;
  last_length = (sizes_set h).last_length_of;
  taken = taken_seats fixed h;
  complete = complete_seats fixed h;
  round = round_number h;
  free = free_place fixed h;
  last = last_place fixed h;
}

-- how many trucks a round unchokes
abbrev pub unchokes : Fixed → History → ℕ
unchokes fixed h = count fixed.seats (λ i. seated h i && served_at fixed h i)

-- ---- the missing list

-- each number is greater than those before it, the first at least k
pub data Ascending : ℕ → List ℕ → Type 0 where
  none : (k : ℕ) → Ascending k []
  one : (k a : ℕ) (l : List ℕ) → k ≤ a → Ascending (suc a) l → Ascending k (a ∷ l)

-- l is the list from a first seat on: ascending, with every seat whose truck lacks a piece and no other
pub record Missing (fixed : Fixed) (h : History) (first : ℕ) (l : List ℕ) : Type 0 where
  pub ascends : Ascending first l
  pub members : (j : ℕ) → In j l ↔ ((first ≤ j) × (j < fixed.seats) × (lacking h j ≡ true))

-- a page of it: how many lines are written, how many trucks of the whole yard lack a piece, and the next that is not listed, or the number of seats
abbrev pub page_of : Fixed → History → ℕ → List ℕ → Page
page_of fixed h space l = record {
  written = length (take space l);
  total = count fixed.seats (lacking h);
  next = first_or fixed.seats (drop space l);
}

-- ---- the lowest free seat

-- k is the lowest below n that lacks f, or n
pub record Lowest (f : ℕ → Bool) (n k : ℕ) : Type 0 where
  pub within : k ≤ n
  pub below : (j : ℕ) → j < k → f j ≡ true
  pub lacks : k < n → f k ≡ false
