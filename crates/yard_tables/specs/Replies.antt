-- The steps by value, from which the answers of calls at one seat are put together: contracts of functions cite these. Assumes nothing: these are definitions.
-- They need not be believed: `turn` of Tables.antt reads them, and the calls' contracts say what is to come of it.
use Rattle.refusal.specs.declared.Refusal.{Refusal}
use Rattle.std.specs.Prelude.{Bool, cond, ◌&&◌, ◌||◌, ℕ, ◌+◌, eqb, ltb, Err, Ok, Result}
use Rattle.refusal.specs.Numbers.{beyond, outside, damaged}
use Rattle.refusal.specs.Limits.{most_sent}
use Rattle.yard_tables.specs.Seats.{spoken, having}
use Rattle.yard_tables.specs.declared.Head.{Head}
use Rattle.yard_tables.specs.declared.Seat.{Seat}
use Rattle.yard_tables.specs.declared.Answer.{Answer}
use Rattle.yard_tables.specs.declared.Answer.TheVariants.{Taken}
use Rattle.yard_tables.specs.declared.Stepped.{Stepped}

abbrev pub stepped : Head → Seat → Result Answer Refusal → Stepped
stepped h s a = record { head = h; seat = s; answer = a }

abbrev pub refusing : Head → Seat → ℕ → Stepped
refusing h s number = stepped h s (Err (record { number = number; place = 0 }))

-- a frame that speaks of a block of piece p, which fits or not; a is the answer where it does
abbrev pub block_step : Head → Seat → ℕ → Bool → Result Answer Refusal → Stepped
block_step h s p fits a = cond (ltb p h.pieces) (cond fits (stepped h (spoken s) a) (refusing h s outside)) (refusing h s beyond)

-- a piece, whose block of so many bytes fits or not
abbrev pub piece_step : Head → Seat → ℕ → Bool → ℕ → ℕ → Stepped
piece_step h s p fits len used =
    cond (ltb p h.pieces)
    (cond fits
    (cond (ltb most_sent (s.bytes + len)) (refusing h s damaged) (stepped h (spoken (having (s.bytes + len) s)) (Ok (Taken used))))
    (refusing h s outside))
    (refusing h s beyond)

-- one of the head's counts that the leaving of s lowers is 0
abbrev pub head_at_zero : Head → Seat → Bool
head_at_zero h s = eqb h.taken 0 || (eqb s.held h.pieces && eqb h.complete 0)
