-- Demand 1 of `yard`: the calls over lent tables, for C. Assumes nothing.
use Rattle.std.specs.Prelude.{Bool, List, ◌≡◌, ℕ, length}
use Rattle.std.proofs.lemmas.List.Edits.{sets}
use Rattle.yard_tables.specs.Step.{Call, step, written}
use Rattle.yard_tables.specs.Tables.{yard_of}
use Rattle.yard_tables.specs.declared.Head.{Head}
use Rattle.yard_tables.specs.declared.Seat.{Seat}
use Rattle.yard_telling.specs.Telling.{Steps, Tells, Looks, Shows}
use Rattle.yard_telling.specs.declared.Told.{Told}
use Rattle.demands.specs.One.{Lent, now}

-- yard::wardrail_yard_start
abbrev pub start-ensures : (pieces piece_length last_length : ℕ) → ℕ → Lent Head → Lent (List Seat) → Lent (List ℕ) → Lent (List ℕ) → Type 0
start-ensures pieces piece_length last_length r head seats rows holders =
    Steps (step (Call.start pieces piece_length last_length) (yard_of (now head.entry) (now seats.entry) (now rows.entry) (now holders.entry))) r (yard_of (now head.exit) (now seats.exit) (now rows.exit) (now holders.exit))

-- yard::wardrail_yard_sit
abbrev pub sit-ensures : (holders : Lent (List ℕ)) → ℕ → Lent Head → Lent (List Seat) → Lent (List ℕ) → Lent Told → Type 0
sit-ensures holders r head seats rows told =
    Tells (step Call.sit (yard_of (now head.entry) (now seats.entry) (now rows.entry) (now holders.entry))) (now told.entry) r (now told.exit) (yard_of (now head.exit) (now seats.exit) (now rows.exit) (now holders.entry))

-- yard::wardrail_yard_leave
abbrev pub leave-ensures : (seat : ℕ) → ℕ → Lent Head → Lent (List Seat) → Lent (List ℕ) → Lent (List ℕ) → Type 0
leave-ensures seat r head seats rows holders =
    Steps (step (Call.leave seat) (yard_of (now head.entry) (now seats.entry) (now rows.entry) (now holders.entry))) r (yard_of (now head.exit) (now seats.exit) (now rows.exit) (now holders.exit))

-- yard::wardrail_yard_feed
abbrev pub feed-ensures : (seat : ℕ) (bytes : Lent (List ℕ)) → ℕ → Lent Head → Lent (List Seat) → Lent (List ℕ) → Lent (List ℕ) → Lent Told → Type 0
feed-ensures seat bytes r head seats rows holders told =
    Tells (step (Call.feed seat (now bytes.entry)) (yard_of (now head.entry) (now seats.entry) (now rows.entry) (now holders.entry))) (now told.entry) r (now told.exit) (yard_of (now head.exit) (now seats.exit) (now rows.exit) (now holders.exit))

-- yard::wardrail_yard_choke
abbrev pub choke-ensures : (rows holders : Lent (List ℕ)) (seat : ℕ) (on : Bool) → ℕ → Lent Head → Lent (List Seat) → Lent (List ℕ) → Type 0
choke-ensures rows holders seat on r head seats frame =
    (Steps (step (Call.choke seat on (length (now frame.entry))) (yard_of (now head.entry) (now seats.entry) (now rows.entry) (now holders.entry))) r (yard_of (now head.exit) (now seats.exit) (now rows.entry) (now holders.entry))) × (now frame.exit ≡ sets (now frame.entry) 0 (written (Call.choke seat on (length (now frame.entry))) (yard_of (now head.entry) (now seats.entry) (now rows.entry) (now holders.entry))))

-- yard::wardrail_yard_interest
abbrev pub interest-ensures : (rows holders : Lent (List ℕ)) (seat : ℕ) (on : Bool) → ℕ → Lent Head → Lent (List Seat) → Lent (List ℕ) → Type 0
interest-ensures rows holders seat on r head seats frame =
    (Steps (step (Call.interest seat on (length (now frame.entry))) (yard_of (now head.entry) (now seats.entry) (now rows.entry) (now holders.entry))) r (yard_of (now head.exit) (now seats.exit) (now rows.entry) (now holders.entry))) × (now frame.exit ≡ sets (now frame.entry) 0 (written (Call.interest seat on (length (now frame.entry))) (yard_of (now head.entry) (now seats.entry) (now rows.entry) (now holders.entry))))

-- yard::wardrail_yard_missing
abbrev pub missing-ensures : (seats : Lent (List Seat)) (rows holders : Lent (List ℕ)) (first : ℕ) → ℕ → Lent Head → Lent (List ℕ) → Lent Told → Type 0
missing-ensures seats rows holders first r head page told =
    (Looks (step (Call.missing first (length (now page.entry))) (yard_of (now head.entry) (now seats.entry) (now rows.entry) (now holders.entry))).answer (now told.entry) r (now told.exit)) × (now page.exit ≡ sets (now page.entry) 0 (written (Call.missing first (length (now page.entry))) (yard_of (now head.entry) (now seats.entry) (now rows.entry) (now holders.entry)))) × (now head.exit ≡ now head.entry)

-- yard::wardrail_yard_scarcest
abbrev pub scarcest-ensures : (seats : Lent (List Seat)) (rows holders : Lent (List ℕ)) → ℕ → Lent Head → Lent Told → Type 0
scarcest-ensures seats rows holders r head told =
    (Looks (step Call.scarcest (yard_of (now head.entry) (now seats.entry) (now rows.entry) (now holders.entry))).answer (now told.entry) r (now told.exit)) × (now head.exit ≡ now head.entry)

-- yard::wardrail_yard_look
abbrev pub look-ensures : (seats : Lent (List Seat)) (rows holders : Lent (List ℕ)) (seat : ℕ) → ℕ → Lent Head → Lent Seat → Type 0
look-ensures seats rows holders seat r head seen =
    (Shows (step (Call.look seat) (yard_of (now head.entry) (now seats.entry) (now rows.entry) (now holders.entry))).answer (now seen.entry) r (now seen.exit)) × (now head.exit ≡ now head.entry)

-- yard::wardrail_yard_has
abbrev pub has-ensures : (seats : Lent (List Seat)) (rows holders : Lent (List ℕ)) (seat piece : ℕ) → ℕ → Lent Head → Lent Told → Type 0
has-ensures seats rows holders seat piece r head told =
    (Looks (step (Call.has seat piece) (yard_of (now head.entry) (now seats.entry) (now rows.entry) (now holders.entry))).answer (now told.entry) r (now told.exit)) × (now head.exit ≡ now head.entry)

-- yard::wardrail_yard_count
abbrev pub count-ensures : (seats : Lent (List Seat)) (rows holders : Lent (List ℕ)) (piece : ℕ) → ℕ → Lent Head → Lent Told → Type 0
count-ensures seats rows holders piece r head told =
    (Looks (step (Call.count piece) (yard_of (now head.entry) (now seats.entry) (now rows.entry) (now holders.entry))).answer (now told.entry) r (now told.exit)) × (now head.exit ≡ now head.entry)

-- yard::wardrail_yard_round
abbrev pub round-ensures : (rows holders : Lent (List ℕ)) → ℕ → Lent Head → Lent (List Seat) → Lent Told → Type 0
round-ensures rows holders r head seats told =
    Tells (step Call.round (yard_of (now head.entry) (now seats.entry) (now rows.entry) (now holders.entry))) (now told.entry) r (now told.exit) (yard_of (now head.exit) (now seats.exit) (now rows.entry) (now holders.entry))
