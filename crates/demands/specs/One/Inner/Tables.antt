-- Demand 1 of `yard_tables`: what the yard's calls share. Assumes nothing.
use Rattle.refusal.specs.declared.Refusal.{Refusal}
use Rattle.std.specs.Prelude.{Bool, ◌≡◌, ℕ, ◌+◌, ◌-◌, ◌%◌, ◌^◌, min, Ok, Result}
use Rattle.refusal.specs.Paper.{taken}
use Rattle.torrent_blocks.specs.declared.PieceNumber.{PieceNumber}
use Rattle.torrent_blocks.specs.declared.PieceOffset.{PieceOffset}
use Rattle.yard_tables.specs.Counting.{bit}
use Rattle.yard_tables.specs.Frames.{block_fits, requested}
use Rattle.yard_tables.specs.Replies.{stepped, refusing, block_step, piece_step, head_at_zero}
use Rattle.yard_tables.specs.Rounds.{misplaced}
use Rattle.yard_tables.specs.Ranks.{unranked, rank_step, free_of, turned, choke_step, unchoke_step}
use Rattle.yard_tables.specs.Rows.{digit}
use Rattle.yard_tables.specs.Seating.{given_up}
use Rattle.yard_tables.specs.Seats.{on, cleared, arrived, spoken, they_choke, they_want}
use Rattle.yard_tables.specs.Tables.{paper, sizes_fit}
use Rattle.yard_tables.specs.declared.Answer.{Answer}
use Rattle.yard_tables.specs.declared.Head.{Head}
use Rattle.yard_tables.specs.declared.Seat.{Seat}
use Rattle.yard_tables.specs.declared.rank.Ranking.{Ranking}
use Rattle.yard_tables.specs.declared.round.Turned.{Turned}
use Rattle.yard_tables.specs.declared.Stepped.{Stepped}

-- yard_tables::cleared_seat
abbrev pub cleared_seat-ensures : Seat → Type 0
cleared_seat-ensures r = r ≡ cleared

-- yard_tables::arrived_seat
abbrev pub arrived_seat-ensures : Seat → Type 0
arrived_seat-ensures r = r ≡ arrived

-- yard_tables::bits::bit_of
abbrev pub bit_of-ensures : (b p : ℕ) → Bool → Type 0
bit_of-ensures b p r = r ≡ digit (7 - p % 8) b

-- yard_tables::bits::mask
abbrev pub mask-ensures : (p : ℕ) → ℕ → Type 0
mask-ensures p r = r ≡ 2 ^ (7 - p % 8)

-- yard_tables::bits::end_of
abbrev pub end_of-ensures : (p pieces : ℕ) → ℕ → Type 0
end_of-ensures p pieces r = r ≡ min (p + 8) pieces

-- yard_tables::block::block_step
abbrev pub block_step-ensures : (h : Head) (s : Seat) (p : PieceNumber) (fits : Bool) (a : Result Answer Refusal) → Stepped → Type 0
block_step-ensures h s p fits a r = r ≡ block_step h s p.0 fits a

-- yard_tables::block::piece_step
abbrev pub piece_step-ensures : (h : Head) (s : Seat) (p : PieceNumber) (fits : Bool) (len used : ℕ) → Stepped → Type 0
piece_step-ensures h s p fits len used r = r ≡ piece_step h s p.0 fits len used

-- yard_tables::block::asked
abbrev pub asked-ensures : (s : Seat) (used : ℕ) → Result Answer Refusal → Type 0
asked-ensures s used r = paper r ≡ taken (requested used s)

-- yard_tables::block::lies_within
abbrev pub lies_within-ensures : (h : Head) (p : PieceNumber) (begin : PieceOffset) (len : ℕ) → Bool → Type 0
lies_within-ensures h p begin len r = r ≡ block_fits h p.0 begin.0 len

-- yard_tables::leaving::head_at_zero
abbrev pub head_at_zero-ensures : (h : Head) (s : Seat) → Bool → Type 0
head_at_zero-ensures h s r = r ≡ head_at_zero h s

-- yard_tables::leaving::give_up
abbrev pub give_up-ensures : (h : Head) (i : ℕ) → Head → Type 0
give_up-ensures h i r = r ≡ given_up i h

-- yard_tables::leaving::lower_to
abbrev pub lower_to-ensures : (count : ℕ) (has : Bool) → ℕ → Type 0
lower_to-ensures count has r = r ≡ count - bit has

-- yard_tables::rank::unranked
abbrev pub unranked-ensures : Ranking → Type 0
unranked-ensures r = r ≡ unranked

-- yard_tables::rank::rank_step
abbrev pub rank_step-ensures : (best : Ranking) (s : Seat) (i : ℕ) (h : Head) → Ranking → Type 0
rank_step-ensures best s i h r = r ≡ rank_step h.last best s i

-- yard_tables::round::misplaced
abbrev pub misplaced-ensures : (h : Head) (n : ℕ) → Bool → Type 0
misplaced-ensures h n r = r ≡ misplaced h n

-- yard_tables::round::free_place
abbrev pub free_place-ensures : (h : Head) (best : Ranking) → ℕ → Type 0
free_place-ensures h best r = r ≡ free_of h best

-- yard_tables::round::turn
abbrev pub turn-ensures : (h : Head) (best : Ranking) (free : ℕ) (holder : Seat) → Turned → Type 0
turn-ensures h best free holder r = r ≡ turned h best free holder

-- yard_tables::round::choke
abbrev pub choke-ensures : (s : Seat) → Seat → Type 0
choke-ensures s r = r ≡ choke_step s

-- yard_tables::round::unchoke
abbrev pub unchoke-ensures : (s : Seat) → Seat → Type 0
unchoke-ensures s r = r ≡ unchoke_step s

-- yard_tables::reply::refused
abbrev pub refused-ensures : (h : Head) (s : Seat) (number : ℕ) → Stepped → Type 0
refused-ensures h s number r = r ≡ refusing h s number

-- yard_tables::reply::waiting
abbrev pub waiting-ensures : (h : Head) (s : Seat) → Stepped → Type 0
waiting-ensures h s r = r ≡ stepped h s (Ok Answer.Wait)

-- yard_tables::reply::taken
abbrev pub taken-ensures : (h : Head) (s : Seat) (used : ℕ) → Stepped → Type 0
taken-ensures h s used r = r ≡ stepped h s (Ok (Answer.Taken used))

-- yard_tables::reply::passed
abbrev pub passed-ensures : (h : Head) (s : Seat) (used : ℕ) → Stepped → Type 0
passed-ensures h s used r = r ≡ stepped h (spoken s) (Ok (Answer.Taken used))

-- yard_tables::reply::spoken
abbrev pub spoken-ensures : (s : Seat) → Seat → Type 0
spoken-ensures s r = r ≡ spoken s

-- yard_tables::reply::they_choke
abbrev pub they_choke-ensures : (s : Seat) (b : Bool) → Seat → Type 0
they_choke-ensures s b r = r ≡ they_choke b s

-- yard_tables::reply::they_want
abbrev pub they_want-ensures : (s : Seat) (b : Bool) → Seat → Type 0
they_want-ensures s b r = r ≡ they_want b s

-- yard_tables::sizes::sizes_fit
abbrev pub sizes_fit-ensures : (h : Head) (n rows holders : ℕ) → Bool → Type 0
sizes_fit-ensures h n rows holders r = r ≡ sizes_fit h n rows holders

-- yard_tables::on
abbrev pub on-ensures : (flag : ℕ) → Bool → Type 0
on-ensures flag r = r ≡ on flag

-- yard_tables::held
abbrev pub held-ensures : (s : Seat) → ℕ → Type 0
held-ensures s r = r ≡ s.held

-- yard_tables::sizes::wide
abbrev pub wide-ensures : (x : ℕ) → ℕ → Type 0
wide-ensures x r = r ≡ x
