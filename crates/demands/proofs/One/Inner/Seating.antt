-- Demand 1 of `yard_seating`: starting, sitting down, leaving, our own marks and the looks, by value. Assumes nothing.
use Rattle.std.specs.Prelude.{Bool, List, ℕ, replicate}
use Rattle.std.proofs.Common.{ap, ◌∙◌}
use Rattle.std.proofs.lemmas.List.{length-replicate}
use Rattle.std.proofs.lemmas.List.Edits.{sets}
use Rattle.torrent_blocks.specs.declared.PieceNumber.{PieceNumber}
use Rattle.yard_tables.specs.Looks.{scarcest_of, has_of, count_of}
use Rattle.yard_tables.specs.Seats.{cleared}
use Rattle.yard_tables.specs.Step.{choke_frame, if_taken, interest_frame}
use Rattle.refusal.specs.Paper.{paper as start_paper}
use Rattle.yard_tables.specs.Tables.{around, paper}
use Rattle.yard_tables.specs.declared.Head.{Head}
use Rattle.yard_tables.specs.declared.Seat.{Seat}
use Rattle.yard_tables.proofs.Keeping.{sit-keeps, leave-keeps}
use Rattle.yard_seating.specs.Steps.{empty_head}
use Rattle.yard_seating.proofs.Determined as laws
use Rattle.demands_laws.proofs.Keeping.{turn-kept, start-kept}
use Rattle.demands.specs.One.{Lent, now, Determined2, Keeps2, Refused, Determined1, Keeps1, Determined}
use Rattle.demands.specs.One.Inner.Seating.{start_step-ensures, sit_step-ensures, leave_step-ensures, choke_step-ensures, interest_step-ensures, scarcest-ensures, seat-ensures, has-ensures, count-ensures}

-- yard_seating::start_step
pub start_step-determined : (pieces piece_length last_length n : ℕ) → Determined2 (start_step-ensures pieces piece_length last_length n)
start_step-determined pieces piece_length last_length n rows holders r r' rows₁ rows₂ holders₁ holders₂ e f = laws.start-determined _ _ _ _ _ _ r r' _ _ _ _ e f (empty_head 0 0 0)

pub start_step-keeps : (pieces piece_length last_length n : ℕ) → Keeps2 (start_step-ensures pieces piece_length last_length n) (λ r. Refused (start_paper r))
start_step-keeps pieces piece_length last_length n r rows holders e k =
    start-kept (empty_head 0 0 0) pieces piece_length last_length n (now rows.entry) (now holders.entry) (now rows.exit) (now holders.exit) r (e (empty_head 0 0 0) (replicate n cleared) (length-replicate n cleared)) k

-- yard_seating::sit_step
pub sit_step-determined : (h : Head) (s : Seat) (holders : Lent (List ℕ)) (i n : ℕ) → Determined1 (sit_step-ensures h s holders i n)
sit_step-determined h s holders i n rows r r' rows₁ rows₂ e f = laws.sit-determined _ _ _ _ _ _ r r' _ _ e f

pub sit_step-keeps : (h : Head) (s : Seat) (holders : Lent (List ℕ)) (i n : ℕ) → Keeps1 (sit_step-ensures h s holders i n) (λ r. Refused (paper r.answer))
sit_step-keeps h s holders i n r rows e k = (turn-kept (sit-keeps _ i n) r e k).0

-- yard_seating::leave_step
pub leave_step-determined : (h : Head) (s : Seat) (i n : ℕ) → Determined2 (leave_step-ensures h s i n)
leave_step-determined h s i n rows holders r r' rows₁ rows₂ holders₁ holders₂ e f = laws.leave-determined _ _ _ _ _ _ r r' _ _ _ _ e f

pub leave_step-keeps : (h : Head) (s : Seat) (i n : ℕ) → Keeps2 (leave_step-ensures h s i n) (λ r. Refused (paper r.answer))
leave_step-keeps h s i n r rows holders e k = turn-kept (leave-keeps _ i n) r e k

-- yard_seating::choke_step
pub choke_step-determined : (h : Head) (s : Seat) (rows holders : Lent (List ℕ)) (i n : ℕ) (on : Bool) → Determined1 (choke_step-ensures h s rows holders i n on)
choke_step-determined h s rows holders i n on out r r' out₁ out₂ e f = laws.mark-determined _ _ _ _ _ _ _ _ _ r r' _ _ e.0 e.1 f.0 f.1

pub choke_step-keeps : (h : Head) (s : Seat) (rows holders : Lent (List ℕ)) (i n : ℕ) (on : Bool) → Keeps1 (choke_step-ensures h s rows holders i n on) (λ r. Refused (paper r.answer))
choke_step-keeps h s rows holders i n on r out e k = e.1 ∙ ap (λ o. sets (now out.entry) 0 (if_taken o (choke_frame on))) k.2

-- yard_seating::interest_step
pub interest_step-determined : (h : Head) (s : Seat) (rows holders : Lent (List ℕ)) (i n : ℕ) (on : Bool) → Determined1 (interest_step-ensures h s rows holders i n on)
interest_step-determined h s rows holders i n on out r r' out₁ out₂ e f = laws.mark-determined _ _ _ _ _ _ _ _ _ r r' _ _ e.0 e.1 f.0 f.1

pub interest_step-keeps : (h : Head) (s : Seat) (rows holders : Lent (List ℕ)) (i n : ℕ) (on : Bool) → Keeps1 (interest_step-ensures h s rows holders i n on) (λ r. Refused (paper r.answer))
interest_step-keeps h s rows holders i n on r out e k = e.1 ∙ ap (λ o. sets (now out.entry) 0 (if_taken o (interest_frame on))) k.2

-- yard_seating::looks::scarcest
pub scarcest-determined : (h : Head) (n : ℕ) (rows holders : Lent (List ℕ)) → Determined (scarcest-ensures h n rows holders)
scarcest-determined h n rows holders r r' e f = laws.look-determined (λ q. scarcest_of n (around h q (now rows.entry) (now holders.entry))) r r' e f cleared

-- yard_seating::looks::seat
pub seat-determined : (h : Head) (s : Seat) (i n : ℕ) (rows holders : Lent (List ℕ)) → Determined (seat-ensures h s i n rows holders)
seat-determined h s i n rows holders r r' e f = laws.seat-determined _ _ _ _ _ _ r r' e f

-- yard_seating::looks::has
pub has-determined : (h : Head) (i : ℕ) (piece : PieceNumber) (n : ℕ) (rows holders : Lent (List ℕ)) → Determined (has-ensures h i piece n rows holders)
has-determined h i piece n rows holders r r' e f = laws.look-determined (λ q. has_of i piece.0 n (around h q (now rows.entry) (now holders.entry))) r r' e f cleared

-- yard_seating::looks::count
pub count-determined : (h : Head) (piece : PieceNumber) (n : ℕ) (rows holders : Lent (List ℕ)) → Determined (count-ensures h piece n rows holders)
count-determined h piece n rows holders r r' e f = laws.look-determined (λ q. count_of piece.0 n (around h q (now rows.entry) (now holders.entry))) r r' e f cleared
