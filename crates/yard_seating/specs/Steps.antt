-- What the steps' own parts come to. Assumes nothing: these are definitions.
-- They serve inner contracts alone and need not be believed: yard_seating/proofs/Ways.antt ties them to yard_tables/specs/Seating.antt.
use Rattle.std.specs.Prelude.{Bool, cond, ◌&&◌, List, ℕ, zero, suc, ◌+◌, ◌/◌, ◌%◌, ◌-◌, eqb, ltb, length, get_or, set, replicate, Option, Some, None, Result, Ok, Err}
use Rattle.refusal.specs.Numbers.{seat, sizes, room}
use Rattle.refusal.specs.Paper.{taken, refusal}
use Rattle.refusal.specs.declared.Refusal.{Refusal}
use Rattle.yard_tables.specs.Counting.{bit, some}
use Rattle.yard_tables.specs.Replies.{refusing, stepped}
use Rattle.yard_tables.specs.Rows.{digit}
use Rattle.yard_tables.specs.Seats.{on, cleared}
use Rattle.yard_tables.specs.Rounds.{nobody}
use Rattle.yard_tables.specs.Tables.{done, Out, yard_of, sizes_fit}
use Rattle.yard_tables.specs.declared.Head.{Head}
use Rattle.yard_tables.specs.declared.Seat.{Seat}
use Rattle.yard_tables.specs.declared.Stepped.{Stepped}
use Rattle.yard_tables.specs.declared.Answer.TheVariants.{Wrote}

-- the head of a yard of these sizes with nobody in it
abbrev pub empty_head : ℕ → ℕ → ℕ → Head
empty_head pieces piece_length_of last_length_of = record { pieces = pieces; piece_length = piece_length_of; last_length = last_length_of; taken = 0; complete = 0; round = 0; free = nobody; last = 0 }

-- what starting leaves, where the head and the seats were these: all seats are cleared where it is not refused
abbrev pub begun : Result Head Refusal → Head → List Seat → List ℕ → List ℕ → Out
begun (Ok g) h seats rows holders = record { answer = taken done; yard = yard_of g (replicate (length seats) cleared) rows holders }
begun (Err r) h seats rows holders = record { answer = refusal r; yard = yard_of h seats rows holders }

-- the number of the refusal where the sizes do not fit or no truck sits at seat i of n
abbrev pub fault_at : Head → Seat → ℕ → ℕ → ℕ → ℕ → Option ℕ
fault_at h s i n rows holders = cond (sizes_fit h n rows holders) (cond (ltb i n && on s.taken) None (Some seat)) (Some sizes)

-- the seat s becomes t, unless there is less room than a frame of 5 bytes takes
abbrev pub marked_or : Head → Seat → Seat → ℕ → Stepped
marked_or h s t space = cond (ltb space 5) (refusing h s room) (stepped h t (Ok (Wrote 5)))

-- bit p of the row that begins at a byte
abbrev pub has_at : List ℕ → ℕ → ℕ → Bool
has_at rows at p = digit (7 - p % 8) (get_or rows (at + p / 8) 0)

-- one of its first n pieces has no holder
abbrev pub some_zero : List ℕ → ℕ → List ℕ → ℕ → Bool
some_zero rows at holders n = some n (λ p. has_at rows at p && eqb (get_or holders p 0) 0)

-- the counts with those of its first n pieces one down
unfoldable pub lowered : List ℕ → ℕ → ℕ → List ℕ → List ℕ
lowered rows at zero l = l
lowered rows at (suc n) l = let t : List ℕ = lowered rows at n l in set t n (get_or t n 0 - bit (has_at rows at n))
