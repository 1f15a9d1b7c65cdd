-- Demand 1 of `yard_tables`: what the yard's calls share. Assumes nothing.
use Rattle.refusal.specs.declared.Refusal.{Refusal}
use Rattle.std.specs.Prelude.{Bool, ℕ, Result}
use Rattle.std.proofs.Common.{sym, ◌∙◌}
use Rattle.torrent_blocks.specs.declared.PieceNumber.{PieceNumber}
use Rattle.torrent_blocks.specs.declared.PieceOffset.{PieceOffset}
use Rattle.yard_tables.specs.declared.Answer.{Answer}
use Rattle.yard_tables.specs.declared.Head.{Head}
use Rattle.yard_tables.specs.declared.Seat.{Seat}
use Rattle.yard_tables.specs.declared.rank.Ranking.{Ranking}
use Rattle.yard_tables.proofs.Telling.{paper-tells}
use Rattle.demands.specs.One.{Determined}
use Rattle.demands.specs.One.Inner.Tables.{cleared_seat-ensures, arrived_seat-ensures, bit_of-ensures, mask-ensures, end_of-ensures, block_step-ensures, piece_step-ensures, asked-ensures, lies_within-ensures, head_at_zero-ensures, give_up-ensures, lower_to-ensures, unranked-ensures, rank_step-ensures, misplaced-ensures, free_place-ensures, turn-ensures, choke-ensures, unchoke-ensures, refused-ensures, waiting-ensures, taken-ensures, passed-ensures, spoken-ensures, they_choke-ensures, they_want-ensures, sizes_fit-ensures, on-ensures, held-ensures, wide-ensures}

-- yard_tables::cleared_seat
pub cleared_seat-determined : Determined cleared_seat-ensures
cleared_seat-determined r r' e f = e ∙ sym f

-- yard_tables::arrived_seat
pub arrived_seat-determined : Determined arrived_seat-ensures
arrived_seat-determined r r' e f = e ∙ sym f

-- yard_tables::bits::bit_of
pub bit_of-determined : (b p : ℕ) → Determined (bit_of-ensures b p)
bit_of-determined b p r r' e f = e ∙ sym f

-- yard_tables::bits::mask
pub mask-determined : (p : ℕ) → Determined (mask-ensures p)
mask-determined p r r' e f = e ∙ sym f

-- yard_tables::bits::end_of
pub end_of-determined : (p pieces : ℕ) → Determined (end_of-ensures p pieces)
end_of-determined p pieces r r' e f = e ∙ sym f

-- yard_tables::block::block_step
pub block_step-determined : (h : Head) (s : Seat) (p : PieceNumber) (fits : Bool) (a : Result Answer Refusal) → Determined (block_step-ensures h s p fits a)
block_step-determined h s p fits a r r' e f = e ∙ sym f

-- yard_tables::block::piece_step
pub piece_step-determined : (h : Head) (s : Seat) (p : PieceNumber) (fits : Bool) (len used : ℕ) → Determined (piece_step-ensures h s p fits len used)
piece_step-determined h s p fits len used r r' e f = e ∙ sym f

-- yard_tables::block::asked
pub asked-determined : (s : Seat) (used : ℕ) → Determined (asked-ensures s used)
asked-determined s used r r' e f = paper-tells r r' (e ∙ sym f)

-- yard_tables::block::lies_within
pub lies_within-determined : (h : Head) (p : PieceNumber) (begin : PieceOffset) (len : ℕ) → Determined (lies_within-ensures h p begin len)
lies_within-determined h p begin len r r' e f = e ∙ sym f

-- yard_tables::leaving::head_at_zero
pub head_at_zero-determined : (h : Head) (s : Seat) → Determined (head_at_zero-ensures h s)
head_at_zero-determined h s r r' e f = e ∙ sym f

-- yard_tables::leaving::give_up
pub give_up-determined : (h : Head) (i : ℕ) → Determined (give_up-ensures h i)
give_up-determined h i r r' e f = e ∙ sym f

-- yard_tables::leaving::lower_to
pub lower_to-determined : (count : ℕ) (has : Bool) → Determined (lower_to-ensures count has)
lower_to-determined count has r r' e f = e ∙ sym f

-- yard_tables::rank::unranked
pub unranked-determined : Determined unranked-ensures
unranked-determined r r' e f = e ∙ sym f

-- yard_tables::rank::rank_step
pub rank_step-determined : (best : Ranking) (s : Seat) (i : ℕ) (h : Head) → Determined (rank_step-ensures best s i h)
rank_step-determined best s i h r r' e f = e ∙ sym f

-- yard_tables::round::misplaced
pub misplaced-determined : (h : Head) (n : ℕ) → Determined (misplaced-ensures h n)
misplaced-determined h n r r' e f = e ∙ sym f

-- yard_tables::round::free_place
pub free_place-determined : (h : Head) (best : Ranking) → Determined (free_place-ensures h best)
free_place-determined h best r r' e f = e ∙ sym f

-- yard_tables::round::turn
pub turn-determined : (h : Head) (best : Ranking) (free : ℕ) (holder : Seat) → Determined (turn-ensures h best free holder)
turn-determined h best free holder r r' e f = e ∙ sym f

-- yard_tables::round::choke
pub choke-determined : (s : Seat) → Determined (choke-ensures s)
choke-determined s r r' e f = e ∙ sym f

-- yard_tables::round::unchoke
pub unchoke-determined : (s : Seat) → Determined (unchoke-ensures s)
unchoke-determined s r r' e f = e ∙ sym f

-- yard_tables::reply::refused
pub refused-determined : (h : Head) (s : Seat) (number : ℕ) → Determined (refused-ensures h s number)
refused-determined h s number r r' e f = e ∙ sym f

-- yard_tables::reply::waiting
pub waiting-determined : (h : Head) (s : Seat) → Determined (waiting-ensures h s)
waiting-determined h s r r' e f = e ∙ sym f

-- yard_tables::reply::taken
pub taken-determined : (h : Head) (s : Seat) (used : ℕ) → Determined (taken-ensures h s used)
taken-determined h s used r r' e f = e ∙ sym f

-- yard_tables::reply::passed
pub passed-determined : (h : Head) (s : Seat) (used : ℕ) → Determined (passed-ensures h s used)
passed-determined h s used r r' e f = e ∙ sym f

-- yard_tables::reply::spoken
pub spoken-determined : (s : Seat) → Determined (spoken-ensures s)
spoken-determined s r r' e f = e ∙ sym f

-- yard_tables::reply::they_choke
pub they_choke-determined : (s : Seat) (b : Bool) → Determined (they_choke-ensures s b)
they_choke-determined s b r r' e f = e ∙ sym f

-- yard_tables::reply::they_want
pub they_want-determined : (s : Seat) (b : Bool) → Determined (they_want-ensures s b)
they_want-determined s b r r' e f = e ∙ sym f

-- yard_tables::sizes::sizes_fit
pub sizes_fit-determined : (h : Head) (n rows holders : ℕ) → Determined (sizes_fit-ensures h n rows holders)
sizes_fit-determined h n rows holders r r' e f = e ∙ sym f

-- yard_tables::on
pub on-determined : (flag : ℕ) → Determined (on-ensures flag)
on-determined flag r r' e f = e ∙ sym f

-- yard_tables::held
pub held-determined : (s : Seat) → Determined (held-ensures s)
held-determined s r r' e f = e ∙ sym f

-- yard_tables::sizes::wide
pub wide-determined : (x : ℕ) → Determined (wide-ensures x)
wide-determined x r r' e f = e ∙ sym f
