-- The seats ranked in one pass, and what a round makes of the ranking: contracts of inner functions cite these. Assumes nothing: these are definitions.
-- They need not be believed: yard_tables/proofs/Ranks.antt ties them to Rounds.antt.
use Rattle.std.specs.Prelude.{Bool, true, false, not, cond, ◌&&◌, ◌||◌, List, [], ◌∷◌, ℕ, suc, ◌+◌, min, eqb, ltb}
use Rattle.std.specs.List.{position_or_len}
use Rattle.yard_tables.specs.Counting.{bit}
use Rattle.yard_tables.specs.Seats.{on, we_choke, having, placed}
use Rattle.yard_tables.specs.Rounds.{nobody}
use Rattle.yard_tables.specs.declared.Head.{Head}
use Rattle.yard_tables.specs.declared.Seat.{Seat}
use Rattle.yard_tables.specs.declared.rank.Place.{Place}
use Rattle.yard_tables.specs.declared.rank.Ranking.{Ranking}
use Rattle.yard_tables.specs.declared.round.Marks.{Marks}
use Rattle.yard_tables.specs.declared.round.Turned.{Turned}

-- ---- the pass

abbrev pub no_place_of : Place
no_place_of = record { seat = nobody; bytes = 0 }

abbrev pub ranking : Place → Place → Place → Place → ℕ → ℕ → Ranking
ranking a b c d lowest next = record { first = a; second = b; third = c; fourth = d; lowest = lowest; next = next }

abbrev pub unranked : Ranking
unranked = ranking no_place_of no_place_of no_place_of no_place_of nobody nobody

abbrev pub wants_it : Seat → Bool
wants_it s = on s.taken && on s.peer_interested

-- nobody, or one that sent fewer bytes
abbrev pub beaten : Place → Place → Bool
beaten p new = eqb p.seat nobody || ltb p.bytes new.bytes

abbrev pub inserted : Place → Ranking → Ranking
inserted new r =
    cond (beaten r.fourth new)
    (cond (beaten r.third new)
    (cond (beaten r.second new)
    (cond (beaten r.first new)
    (ranking new r.first r.second r.third r.lowest r.next)
    (ranking r.first new r.second r.third r.lowest r.next))
    (ranking r.first r.second new r.third r.lowest r.next))
    (ranking r.first r.second r.third new r.lowest r.next))
    r

-- the first that is found is kept
abbrev pub kept_or : ℕ → Bool → ℕ → ℕ
kept_or found counts i = cond (eqb found nobody && counts) i found

abbrev pub noted : ℕ → ℕ → Ranking → Ranking
noted last i r = ranking r.first r.second r.third r.fourth (kept_or r.lowest true i) (kept_or r.next (ltb last i) i)

unfoldable pub rank_step : ℕ → Ranking → Seat → ℕ → Ranking
rank_step last r s i = cond (wants_it s) (inserted (record { seat = i; bytes = s.bytes }) (noted last i r)) r

-- the seats from number i on
unfoldable pub rank_from : ℕ → List Seat → ℕ → Ranking → Ranking
rank_from last [] i r = r
rank_from last (s ∷ ss) i r = rank_from last ss (suc i) (rank_step last r s i)

abbrev pub ranked : ℕ → List Seat → Ranking
ranked last seats = rank_from last seats 0 unranked

-- ---- what a round makes of it

abbrev pub free_of : Head → Ranking → ℕ
free_of h r = cond (eqb h.round 0) (cond (eqb r.next nobody) r.lowest r.next) h.free

abbrev pub next_number : ℕ → ℕ
next_number round = cond (ltb round 2) (round + 1) 0

abbrev pub last_of : Head → ℕ → ℕ
last_of h free = cond (eqb h.round 0 && not (eqb free nobody)) (min free nobody) h.last

abbrev pub head_of : Head → ℕ → Head
head_of h free = placed (next_number h.round) (min free nobody) (last_of h free) h

abbrev pub marks_of : Ranking → ℕ → Marks
marks_of r free = record { first = r.first.seat; second = r.second.seat; third = r.third.seat; fourth = r.fourth.seat; free = free }

-- seat i is one of the four, or is to be unchoked
abbrev pub among : Marks → ℕ → Bool
among m i = eqb i m.first || (eqb i m.second || (eqb i m.third || eqb i m.fourth))

abbrev pub marked : Marks → ℕ → Bool
marked m i = eqb i m.free || among m i

unfoldable pub mark_step : Marks → Seat → ℕ → Seat
mark_step m s i = cond (on s.taken) (we_choke (not (marked m i)) (having 0 s)) s

-- the same in two: every seat is choked, and those that are marked are unchoked after all
abbrev pub choke_step : Seat → Seat
choke_step s = cond (on s.taken) (we_choke true (having 0 s)) s

abbrev pub unchoke_step : Seat → Seat
unchoke_step s = cond (on s.taken) (we_choke false s) s

-- how many of the four there are, and how many trucks are unchoked
abbrev pub four_in : Marks → ℕ
four_in m = position_or_len (λ s. eqb s nobody) (m.first ∷ m.second ∷ m.third ∷ m.fourth ∷ [])

abbrev pub count_of : Marks → Seat → ℕ
count_of m holder = four_in m + bit (on holder.taken && not (among m m.free))

abbrev pub turned : Head → Ranking → ℕ → Seat → Turned
turned h r free holder = record { head = head_of h free; marks = marks_of r free; unchoked = count_of (marks_of r free) holder }
