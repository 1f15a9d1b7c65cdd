-- Demand 1 of `yard_hearing`: a frame for a seat, by value. Assumes nothing.
use Rattle.std.specs.Prelude.{List, ◌≡◌, ℕ}
use Rattle.yard_tables.specs.Frames.{feed_of}
use Rattle.yard_tables.specs.Seats.{counted}
use Rattle.yard_tables.specs.Tables.{around, turn}
use Rattle.yard_tables.specs.declared.Head.{Head}
use Rattle.yard_tables.specs.declared.Seat.{Seat}
use Rattle.yard_tables.specs.declared.Stepped.{Stepped}
use Rattle.demands.specs.One.{Lent, now}

-- yard_hearing::feed_step
abbrev pub feed_step-ensures : (h : Head) (s : Seat) (i n : ℕ) (bytes : Lent (List ℕ)) → Stepped → Lent (List ℕ) → Lent (List ℕ) → Type 0
feed_step-ensures h s i n bytes r rows holders =
    turn r (now rows.exit) (now holders.exit) ≡ feed_of i (now bytes.entry) n (around h s (now rows.entry) (now holders.entry))

-- yard_hearing::heard_head
abbrev pub heard_head-ensures : (was h : Head) → Head → Type 0
heard_head-ensures was h r = r ≡ counted was.taken h.complete was
