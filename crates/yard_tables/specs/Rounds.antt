-- A round: whose turn the free place is, which four are served beside it, and what is left. Assumes nothing: these are definitions.
use Rattle.std.specs.Prelude.{Bool, not, cond, ◌&&◌, ◌||◌, List, ℕ, ◌+◌, ◌-◌, ◌%◌, eqb, ltb, leb, length, get_or}
use Rattle.refusal.specs.Paper.{taken, refused}
use Rattle.refusal.specs.Numbers.{sizes, damaged}
use Rattle.yard_tables.specs.Counting.{count, some, the_one, each}
use Rattle.yard_tables.specs.Seats.{on, cleared, we_choke, having, placed}
use Rattle.yard_tables.specs.Tables.{Yard, Out, unchoked, yard_of, sizes_fit}
use Rattle.yard_tables.specs.declared.Head.{Head}
use Rattle.yard_tables.specs.declared.Seat.{Seat}

-- the free place where no seat has it
abbrev pub nobody : ℕ
nobody = 4294967295

-- how many of n seats are passed on the way to seat j, going round from the one after `last`, which is itself reached last
abbrev pub way : ℕ → ℕ → ℕ → ℕ
way n last j = cond (ltb last j) (j - (last + 1)) (j + n - (last + 1))

-- seat j comes before seat i: it wants the uplink, and sent more bytes, or as many and is lower
abbrev pub before : (ℕ → Bool) → (ℕ → ℕ) → ℕ → ℕ → Bool
before wants sent i j = wants j && (ltb (sent i) (sent j) || (eqb (sent j) (sent i) && ltb j i))

-- ---- of n seats, some of which want the uplink

module _ (n : ℕ) (wants : ℕ → Bool) where
  -- seat k is next: it wants the uplink, and none that does is reached sooner
  abbrev pub is_next : ℕ → ℕ → Bool
  is_next last k = wants k && not (some n (λ j. wants j && ltb (way n last j) (way n last k)))

  -- the next seat, or nobody
  abbrev pub next_of : ℕ → ℕ
  next_of last = the_one n (is_next last) nobody

  -- the free place after a round of this number: on number 0 the next seat's, else its holder's
  abbrev pub free_then : ℕ → ℕ → ℕ → ℕ
  free_then round free last = cond (eqb round 0) (next_of last) free

  -- and where it last was, which stays if it goes to nobody
  abbrev pub last_then : ℕ → ℕ → ℕ
  last_then round last = cond (eqb round 0 && some n wants) (next_of last) last

  -- ---- and each of which sent so many bytes

  module _ (sent : ℕ → ℕ) where
    -- seat i is one of the four: it wants the uplink, and fewer than four come before it
    abbrev pub chosen : ℕ → Bool
    chosen i = wants i && ltb (count n (before wants sent i)) 4

    -- seat i is to be unchoked, where the free place is then `free`
    abbrev pub served : ℕ → ℕ → Bool
    served free i = chosen i || eqb i free

abbrev pub next_round : ℕ → ℕ
next_round round = (round + 1) % 3

-- ---- of the tables

-- a truck sits at seat i; it is interested; the bytes that it sent
abbrev pub taken_in : List Seat → ℕ → Bool
taken_in seats i = on (get_or seats i cleared).taken

abbrev pub wants_in : List Seat → ℕ → Bool
wants_in seats i = taken_in seats i && on (get_or seats i cleared).peer_interested

abbrev pub sent_in : List Seat → ℕ → ℕ
sent_in seats i = (get_or seats i cleared).bytes

-- a seat after a round that unchokes it or not: the record of a free one stays
abbrev pub round_seat : Bool → Seat → Seat
round_seat b s = cond (on s.taken) (we_choke (not b) (having 0 s)) s

-- a round number over 2, or a free place, now (nobody aside) or last, that is no seat of n
unfoldable pub misplaced : Head → ℕ → Bool
misplaced h n = ltb 2 h.round || ((not (eqb h.free nobody) && leb n h.free) || leb n h.last)

abbrev pub head_after : Head → List Seat → Head
head_after h seats = placed (next_round h.round) (free_then (length seats) (wants_in seats) h.round h.free h.last) (last_then (length seats) (wants_in seats) h.round h.last) h

abbrev pub served_in : Head → List Seat → ℕ → Bool
served_in h seats i = served (length seats) (wants_in seats) (sent_in seats) (head_after h seats).free i

-- the head and the seats after a round, and how many trucks it unchokes
unfoldable pub round_of : Yard → Out
round_of y =
    cond (sizes_fit y.head (length y.seats) (length y.rows) (length y.holders))
    (cond (misplaced y.head (length y.seats))
    (record { answer = refused damaged 0; yard = y })
    (record {
      answer = taken (unchoked (count (length y.seats) (λ i. taken_in y.seats i && served_in y.head y.seats i)));
      yard = yard_of (head_after y.head y.seats) (each (λ i s. round_seat (served_in y.head y.seats i) s) y.seats) y.rows y.holders;
    }))
    (record { answer = refused sizes 0; yard = y })
