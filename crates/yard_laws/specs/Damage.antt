-- When 38 and 39 are given, on any tables: the two numbers that speak of the tables and not of a history. Assumes nothing: these are definitions.
use Rattle.std.specs.Prelude.{◌≡◌, Bool, true, false, not, ◌&&◌, List, ℕ, ◌+◌, ◌*◌, ◌≤◌, ◌<◌, eqb, length, get_or}
use Rattle.refusal.specs.Limits.{most_sent}
use Rattle.torrent_blocks.specs.Covers.{Block}
use Rattle.peer_wire.specs.Message.{have, bitfield, piece}
use Rattle.yard_tables.specs.Counting.{count}
use Rattle.yard_tables.specs.Rows.{width, bit_at, has_in}
use Rattle.yard_tables.specs.Seats.{on, cleared}
use Rattle.yard_tables.specs.Rounds.{nobody}
use Rattle.yard_tables.specs.Tables.{Yard}
use Rattle.yard_tables.specs.Frames.{piece_size}
use Rattle.yard_tables.specs.Step.{Call, start, sit, leave, feed, choke, interest, missing, scarcest, look, has, round}
use Rattle.yard_tables.specs.Step.{count as counts}
use Rattle.yard_tables.specs.declared.Seat.{Seat}
use Rattle.yard_laws.specs.History.{sizes_of}
use Rattle.yard_laws.specs.Causes.{Says}
use Rattle.yard_laws.specs.View.{SizesFit}

-- ---- 38

-- the sizes that the head has are legal, and the tables beside it have them
abbrev pub Fit : Yard → Type 0
Fit y = SizesFit (sizes_of y.head.pieces y.head.piece_length y.head.last_length) y

-- a start's own sizes do not fit, in any other call the head's
abbrev pub Unfit : Yard → Call → Type 0
Unfit y (start p l k) = SizesFit (sizes_of p l k) y → ⊥
Unfit y sit = Fit y → ⊥
Unfit y (leave i) = Fit y → ⊥
Unfit y (feed i s) = Fit y → ⊥
Unfit y (choke i b space) = Fit y → ⊥
Unfit y (interest i b space) = Fit y → ⊥
Unfit y (missing first space) = Fit y → ⊥
Unfit y scarcest = Fit y → ⊥
Unfit y (look i) = Fit y → ⊥
Unfit y (has i p) = Fit y → ⊥
Unfit y (counts p) = Fit y → ⊥
Unfit y round = Fit y → ⊥

-- ---- words

abbrev pub seat_of : Yard → ℕ → Seat
seat_of y i = get_or y.seats i cleared

-- a truck sits at seat i; none does
abbrev pub Taken : Yard → ℕ → Type 0
Taken y i = (i < length y.seats) × (on (seat_of y i).taken ≡ true)

abbrev pub Free : Yard → ℕ → Type 0
Free y i = (i < length y.seats) × (on (seat_of y i).taken ≡ false)

-- piece p is in the row of seat i
abbrev pub in_row : Yard → ℕ → ℕ → Bool
in_row y i p = has_in (width y.head.pieces) y.rows i p

-- the pieces that a frame of the truck of seat i announces: a have of a piece that is there, or a bitfield that comes first, has the right length and no spare bit
pub data Announces (y : Yard) (i : ℕ) (s : List ℕ) : (ℕ → Bool) → Type 0 where
  by-have : (p bytes : ℕ) → Says s (have p) bytes → p < y.head.pieces → Announces y i s (λ q. eqb q p)
  by-bitfield : (b : List ℕ) (bytes : ℕ) → Says s (bitfield b) bytes → on (seat_of y i).fresh ≡ true → length b ≡ width y.head.pieces
      → ((p : ℕ) → y.head.pieces ≤ p → p < 8 * length b → bit_at b p ≡ false) → Announces y i s (bit_at b)

-- piece p is announced and is not in the row yet; how many are
pub record New (y : Yard) (i : ℕ) (said : ℕ → Bool) (p : ℕ) : Type 0 where
  pub there : p < y.head.pieces
  pub told : said p ≡ true
  pub lacked : in_row y i p ≡ false

abbrev pub gained : Yard → ℕ → (ℕ → Bool) → ℕ
gained y i said = count y.head.pieces (λ p. said p && not (in_row y i p))

-- ---- 39: nothing else is wrong with the call, and a count that it raises would pass its top, or one that it lowers is 0, or a round finds no place to go on from

pub data Damaged (y : Yard) : Call → Type 0 where
  -- the seats taken
  taken-top : (i : ℕ) → Fit y → Free y i → length y.seats ≤ y.head.taken → Damaged y sit
  taken-zero : (i : ℕ) → Fit y → Taken y i → y.head.taken ≡ 0 → Damaged y (leave i)
  -- the seats complete
  complete-top : (i : ℕ) (s : List ℕ) (said : ℕ → Bool) (p : ℕ) → Fit y → Taken y i → Announces y i s said → New y i said p
      → (seat_of y i).held + gained y i said ≡ y.head.pieces → length y.seats ≤ y.head.complete → Damaged y (feed i s)
  complete-zero : (i : ℕ) → Fit y → Taken y i → (seat_of y i).held ≡ y.head.pieces → y.head.complete ≡ 0 → Damaged y (leave i)
  -- a piece's holders
  holders-top : (i : ℕ) (s : List ℕ) (said : ℕ → Bool) (p : ℕ) → Fit y → Taken y i → Announces y i s said → New y i said p
      → length y.seats ≤ get_or y.holders p 0 → Damaged y (feed i s)
  holders-zero : (i p : ℕ) → Fit y → Taken y i → p < y.head.pieces → in_row y i p ≡ true → get_or y.holders p 0 ≡ 0 → Damaged y (leave i)
  -- the pieces that the truck holds
  held-top : (i : ℕ) (s : List ℕ) (said : ℕ → Bool) (p : ℕ) → Fit y → Taken y i → Announces y i s said → New y i said p
      → y.head.pieces < (seat_of y i).held + gained y i said → Damaged y (feed i s)
  -- the bytes of blocks that the truck sent since the last round
  bytes-top : (i : ℕ) (s : List ℕ) (p b : ℕ) (block : List ℕ) (bytes : ℕ) → Fit y → Taken y i → Says s (piece p b block) bytes → p < y.head.pieces
      → Block (piece_size y.head p) b (length block) → most_sent < (seat_of y i).bytes + length block → Damaged y (feed i s)
  -- a round number over 2; a free place, now (nobody aside) or last, that is no seat
  number-over : Fit y → 2 < y.head.round → Damaged y round
  free-nowhere : Fit y → (y.head.free ≡ nobody → ⊥) → length y.seats ≤ y.head.free → Damaged y round
  last-nowhere : Fit y → length y.seats ≤ y.head.last → Damaged y round
