-- Demand 1 of `yard_seating`: starting, sitting down, leaving, our own marks and the looks, by value. Assumes nothing.
use Rattle.refusal.specs.declared.Refusal.{Refusal}
use Rattle.std.specs.Prelude.{Bool, List, ◌≡◌, ℕ, length, Result}
use Rattle.std.proofs.lemmas.List.Edits.{sets}
use Rattle.torrent_blocks.specs.declared.PieceNumber.{PieceNumber}
use Rattle.yard_tables.specs.Looks.{scarcest_of, seat_of, has_of, count_of}
use Rattle.yard_tables.specs.Seating.{start_of, sit_of, leave_of, mark_of}
use Rattle.yard_tables.specs.Seats.{we_choke, we_want}
use Rattle.yard_tables.specs.Step.{choke_frame, if_taken, interest_frame}
use Rattle.yard_tables.specs.Tables.{yard_of, around, turn, paper}
use Rattle.yard_tables.specs.declared.Answer.{Answer}
use Rattle.yard_tables.specs.declared.Head.{Head}
use Rattle.yard_tables.specs.declared.Seat.{Seat}
use Rattle.yard_tables.specs.declared.Stepped.{Stepped}
use Rattle.yard_seating.specs.Steps.{begun}
use Rattle.demands.specs.One.{Lent, now}

-- yard_seating::start_step
abbrev pub start_step-ensures : (pieces piece_length last_length n : ℕ) → Result Head Refusal → Lent (List ℕ) → Lent (List ℕ) → Type 0
start_step-ensures pieces piece_length last_length n r rows holders =
    (h : Head) (seats : List Seat) → length seats ≡ n → begun r h seats (now rows.exit) (now holders.exit) ≡ start_of pieces piece_length last_length (yard_of h seats (now rows.entry) (now holders.entry))

-- yard_seating::sit_step
abbrev pub sit_step-ensures : (h : Head) (s : Seat) (holders : Lent (List ℕ)) (i n : ℕ) → Stepped → Lent (List ℕ) → Type 0
sit_step-ensures h s holders i n r rows = turn r (now rows.exit) (now holders.entry) ≡ sit_of i n (around h s (now rows.entry) (now holders.entry))

-- yard_seating::leave_step
abbrev pub leave_step-ensures : (h : Head) (s : Seat) (i n : ℕ) → Stepped → Lent (List ℕ) → Lent (List ℕ) → Type 0
leave_step-ensures h s i n r rows holders = turn r (now rows.exit) (now holders.exit) ≡ leave_of i n (around h s (now rows.entry) (now holders.entry))

-- yard_seating::choke_step
abbrev pub choke_step-ensures : (h : Head) (s : Seat) (rows holders : Lent (List ℕ)) (i n : ℕ) (on : Bool) → Stepped → Lent (List ℕ) → Type 0
choke_step-ensures h s rows holders i n on r out =
    (turn r (now rows.entry) (now holders.entry) ≡ mark_of (we_choke on) (length (now out.entry)) i n (around h s (now rows.entry) (now holders.entry)))
    × (now out.exit ≡ sets (now out.entry) 0 (if_taken (paper r.answer) (choke_frame on)))

-- yard_seating::interest_step
abbrev pub interest_step-ensures : (h : Head) (s : Seat) (rows holders : Lent (List ℕ)) (i n : ℕ) (on : Bool) → Stepped → Lent (List ℕ) → Type 0
interest_step-ensures h s rows holders i n on r out =
    (turn r (now rows.entry) (now holders.entry) ≡ mark_of (we_want on) (length (now out.entry)) i n (around h s (now rows.entry) (now holders.entry)))
    × (now out.exit ≡ sets (now out.entry) 0 (if_taken (paper r.answer) (interest_frame on)))

-- yard_seating::looks::scarcest
abbrev pub scarcest-ensures : (h : Head) (n : ℕ) (rows holders : Lent (List ℕ)) → Result Answer Refusal → Type 0
scarcest-ensures h n rows holders r = ((s : Seat) → paper r ≡ (scarcest_of n (around h s (now rows.entry) (now holders.entry))).answer)

-- yard_seating::looks::seat
abbrev pub seat-ensures : (h : Head) (s : Seat) (i n : ℕ) (rows holders : Lent (List ℕ)) → Result Answer Refusal → Type 0
seat-ensures h s i n rows holders r = paper r ≡ (seat_of i n (around h s (now rows.entry) (now holders.entry))).answer

-- yard_seating::looks::has
abbrev pub has-ensures : (h : Head) (i : ℕ) (piece : PieceNumber) (n : ℕ) (rows holders : Lent (List ℕ)) → Result Answer Refusal → Type 0
has-ensures h i piece n rows holders r = ((s : Seat) → paper r ≡ (has_of i piece.0 n (around h s (now rows.entry) (now holders.entry))).answer)

-- yard_seating::looks::count
abbrev pub count-ensures : (h : Head) (piece : PieceNumber) (n : ℕ) (rows holders : Lent (List ℕ)) → Result Answer Refusal → Type 0
count-ensures h piece n rows holders r = ((s : Seat) → paper r ≡ (count_of piece.0 n (around h s (now rows.entry) (now holders.entry))).answer)
