-- Rounds: the number and the places stay within their bounds in any history, so a round is answered as the history says and leaves tables that agree with it; and what a round
-- leaves, at which seats, and that it unchokes at most five. Assumes nothing.
use mathlib.Core.Path.{◌≡◌, refl, sym, ap, ap₂, ◌∙◌, subst}
use mathlib.Core.Logic.{◌⊎◌, inl, inr, ⊎_elim, ◌↔◌}
use mathlib.Core.Bool.{Bool, true, false, not, cond, ◌&&◌}
use mathlib.Core.List.{List, [], ◌∷◌}
use Prim.Native.Nat.{ℕ, ◌+◌, ◌-◌, ◌≤◌, ◌<◌}
use native.Mathlib.Omega.{arith}
use borrow.Author.Tests.{eq-eqb, ne_eqb, eqb-true, ltb-true, lt-ltb, le-ltb, lt-leb}
use lib.Dec.{eqb, leb}
use lib.ListN.{length, get_or, get_or-eq_default}
use Rattle.refusal.specs.Paper.{Outcome, taken, refused}
use Rattle.refusal.specs.Numbers.{damaged}
use Rattle.refusal.specs.Limits.{most_sent}
use Rattle.refusal.proofs.Cases.{by-test, less-or, cannot, both, both_true, and-not, or-none}
use Rattle.peer_wire.specs.Message.{Message, piece}
use Rattle.peer_wire.specs.Frames.{Found, read_of}
use Rattle.yard_tables.specs.Counting.{bit, count, some, each}
use Rattle.yard_tables.specs.Seats.{on, cleared, placed}
use Rattle.yard_tables.specs.Tables.{Yard, Said, unchoked, Out, yard_of, sizes_fit}
use Rattle.yard_tables.specs.Rounds.{nobody, way, next_of, free_then, last_then, before, chosen, served, next_round, taken_in, wants_in, sent_in, round_seat, misplaced, head_after, served_in, round_of}
use Rattle.yard_tables.specs.Step.{Call, start, sit, leave, feed, choke, interest, missing, scarcest, look, has, count as count_at, round, step}
use Rattle.yard_tables.specs.declared.Head.{Head}
use Rattle.yard_tables.specs.declared.Seat.{Seat}
use Rattle.yard_tables.proofs.Counts.{count-ext, count-sub, count-once, count-or, some-none}
use Rattle.yard_tables.proofs.Ranks.{chosen-few, next-right}
use Rattle.yard_tables.proofs.Flags.{on_bit}
use Rattle.yard_tables.proofs.Sweeps.{length-each, get_or-each}
use Rattle.yard_laws.specs.History.{History, Fixed, entry, Event, nothing, came, gone, heard, we_choke, we_want, turned, event, event_of, sort_of, meaning, gives, heard_in, Phase, still, begins, turns, phase, phase_of, seated, seated_by, announced, fresh, we_are_choking, we_are_interested, they_are_choking, they_are_interested, sent, sent_by, block_bytes, bytes_in, block_in_of, brought_by, came_in, came_by, wanting, round_number, number_by_of, free_place, free_by, last_place, last_by, turn_of, served_at}
use Rattle.yard_laws.specs.Says.{held, record_of, head_of, unchokes}
use Rattle.yard_laws.specs.Causes.{Says, Cause, unfit, all-taken, nobody as nobody_at, past-list, past-look, past-has, no_room, too_long, wrong-payload, not_first, wrong-length, spare-bit, no-such-have, no-such-block, no-such-has, no-such-count, past-piece, too_much}
use Rattle.yard_laws.proofs.Agreeing.{Agrees, steady-agrees}
use Rattle.yard_laws.proofs.Calls.{Kept, sizes-here}

-- ---- in any history the round number is at most 2, the free place nobody's or a seat's, and the last one a seat's

number-within : (h : History) → round_number h ≤ 2
number-within [] = omega arith
number-within (e ∷ h) = go (phase e) (number-within h)
  where
    go : (v : Phase) → round_number h ≤ 2 → number_by_of v (round_number h) ≤ 2
    go still l = l
    go (begins z) l = omega arith
    go turns l = omega arith

module _ (fixed : Fixed) (some-seats : 1 ≤ fixed.seats) (few-seats : fixed.seats ≤ nobody) where
  last_within : (h : History) → last_place fixed h < fixed.seats
  last_within [] = omega arith
  last_within (e ∷ h) = go (phase e) (last_within h)
    where
      next : last_place fixed h < fixed.seats → some fixed.seats (wanting h) ≡ true → next_of fixed.seats (wanting h) (last_place fixed h) < fixed.seats
      next l q = ⊎_elim (λ d. cannot _ (some-none (wanting h) fixed.seats d.1) q) (λ d. d.0) (next-right fixed.seats (wanting h) (last_place fixed h) l few-seats)

      go : (v : Phase) → last_place fixed h < fixed.seats
          → last_by v (fixed.seats - 1) (last_then fixed.seats (wanting h) (round_number h) (last_place fixed h)) (last_place fixed h) < fixed.seats
      go still l = l
      go (begins z) l = omega arith
      go turns l = by-test (λ (k : ℕ). k < fixed.seats) (eqb (round_number h) 0 && some fixed.seats (wanting h)) (λ q. next l (both (eqb (round_number h) 0) _ q).1) (λ q. l)

  abbrev PlaceFits : ℕ → Type 0
  PlaceFits k = (k ≡ nobody) ⊎ (k < fixed.seats)

  free-within : (h : History) → PlaceFits (free_place fixed h)
  free-within [] = inl refl
  free-within (e ∷ h) = go (event (free_place fixed h) e) (free-within h)
    where
      go : (v : Event) → PlaceFits (free_place fixed h) → PlaceFits (free_by v (turn_of fixed h (free_place fixed h)) (free_place fixed h))
      go nothing p = p
      go came p = p
      go gone p = inl refl
      go (heard m) p = p
      go (we_choke c) p = p
      go (we_want c) p = p
      go turned p = by-test PlaceFits (eqb (round_number h) 0)
          (λ q. ⊎_elim (λ d. inl d.0) (λ d. inr d.0) (next-right fixed.seats (wanting h) (last_place fixed h) (last_within h) few-seats)) (λ q. p)

  -- so a round finds where to go on from
  in_place : (h : History) → misplaced (head_of fixed h) fixed.seats ≡ false
  unfolding misplaced
  in_place h =
      or-none _ _ (le-ltb 2 (round_number h) (number-within h))
      (or-none _ _ (go (free-within h)) (lt-leb fixed.seats (last_place fixed h) (last_within h)))
    where
      go : PlaceFits (free_place fixed h) → (not (eqb (free_place fixed h) nobody) && leb fixed.seats (free_place fixed h)) ≡ false
      go (inl q) = rw (eq-eqb (free_place fixed h) nobody q)
      go (inr l) = and-not (not (eqb (free_place fixed h) nobody)) _ (λ _. lt-leb fixed.seats (free_place fixed h) l)

-- ---- a round on any tables

module _ (y : Yard) where
  abbrev pub seats_after : List Seat
  seats_after = each (λ i s. round_seat (served_in y.head y.seats i) s) y.seats

  -- a seat that is not there is no exception: it is free
  pub each_after : (j : ℕ) → get_or seats_after j cleared ≡ round_seat (served_in y.head y.seats j) (get_or y.seats j cleared)
  each_after j = less-or j (length y.seats)
      (λ l. get_or-each (λ i s. round_seat (served_in y.head y.seats i) s) y.seats j cleared l)
      (λ l. get_or-eq_default seats_after cleared (omega (arith, length-each (λ i s. round_seat (served_in y.head y.seats i) s) y.seats))
      ∙ ap (round_seat (served_in y.head y.seats j)) (sym (get_or-eq_default y.seats cleared l)))

-- ---- a round on tables that agree

-- what a round makes of a seat, in the history's words
seat-after : (t p c : Bool) (f a b d : Bool) (k m : ℕ)
    → round_seat p (record { taken = bit t; fresh = bit f; am_choking = bit c; am_interested = bit a; peer_choking = bit b; peer_interested = bit d; held = k; bytes = m })
    ≡ record { taken = bit t; fresh = bit f; am_choking = bit (cond t (not p) c); am_interested = bit a; peer_choking = bit b; peer_interested = bit d; held = k; bytes = cond t 0 m }
seat-after true p c f a b d k m = refl
seat-after false p c f a b d k m = refl

module _ (fixed : Fixed) (h : History) (y : Yard) (agrees : Agrees fixed h y) where
  abbrev n : ℕ
  n = fixed.seats

  taken_is : (i : ℕ) → taken_in y.seats i ≡ seated h i
  taken_is i = ap (λ (s : Seat). on s.taken) (agrees.seat-is i) ∙ on_bit (seated h i)

  wants_is : (i : ℕ) → wants_in y.seats i ≡ wanting h i
  wants_is i = ap₂ (λ (a b : Bool). a && b) (taken_is i) (ap (λ (s : Seat). on s.peer_interested) (agrees.seat-is i) ∙ on_bit (they_are_interested h i))

  sent_is : (i : ℕ) → sent_in y.seats i ≡ sent h i
  sent_is i = ap (λ (s : Seat). s.bytes) (agrees.seat-is i)

  abbrev head_with : Head → ℕ → (ℕ → Bool) → Head
  head_with x m wants = placed (next_round x.round) (free_then m wants x.round x.free x.last) (last_then m wants x.round x.last) x

  head-after : head_after y.head y.seats ≡ head_with (head_of fixed h) n (wanting h)
  head-after = λ k. head_with (agrees.head-is k) (agrees.seats-len k) (λ i. wants_is i k)

  served-is : (i : ℕ) → served_in y.head y.seats i ≡ served_at fixed h i
  served-is i = λ k. served (agrees.seats-len k) (λ j. wants_is j k) (λ j. sent_is j k) (head-after k).free i

  round-agrees : (k : ℕ) (w : List ℕ) → Agrees fixed (entry round (taken (unchoked k)) w ∷ h) (yard_of (head_after y.head y.seats) (seats_after y) y.rows y.holders)
  unfolding event phase
  round-agrees k w = subst (λ (x : Head). Agrees fixed (entry round (taken (unchoked k)) w ∷ h) (yard_of x (seats_after y) y.rows y.holders)) (sym head-after)
      (steady-agrees fixed h y agrees (entry round (taken (unchoked k)) w) refl (λ j. refl) (λ j p. refl) (seats_after y) _ _ _
      (length-each (λ i s. round_seat (served_in y.head y.seats i) s) y.seats ∙ agrees.seats-len)
      (λ j. each_after y j ∙ ap₂ round_seat (served-is j) (agrees.seat-is j)
      ∙ seat-after (seated h j) (served_at fixed h j) (we_are_choking fixed h j) (fresh h j) (we_are_interested h j) (they_are_choking h j) (they_are_interested h j) (held h j) (sent h j))
      refl refl refl)

  unchokes-is : count (length y.seats) (λ i. taken_in y.seats i && served_in y.head y.seats i) ≡ unchokes fixed h
  unchokes-is = λ k. count (agrees.seats-len k) (λ i. taken_is i k && served-is i k)

  pub round-kept : (w : List ℕ) → Kept fixed h y agrees round w (round_of y) (taken (unchoked (unchokes fixed h)))
  unfolding round_of
  round-kept w =
      by-test (λ (o : Out). Kept fixed h y agrees round w o (taken (unchoked (unchokes fixed h)))) (sizes_fit y.head (length y.seats) (length y.rows) (length y.holders))
      (λ a. by-test (λ (o : Out). Kept fixed h y agrees round w o (taken (unchoked (unchokes fixed h)))) (misplaced y.head (length y.seats))
      (λ b. cannot _ (ap₂ misplaced agrees.head-is agrees.seats-len ∙ in_place fixed (sizes-here fixed h y agrees).seat (omega (arith, (sizes-here fixed h y agrees).seats)) h) b)
      (λ b. (ap (λ (k : ℕ). taken (unchoked k)) unchokes-is, round-agrees _ w)))
      (λ a. cannot _ a (ap (λ (k : ℕ). sizes_fit y.head k (length y.rows) (length y.holders)) agrees.seats-len ∙ agrees.fits))

-- ---- what a round leaves, after any history

module _ (h : History) (k : ℕ) (w : List ℕ) where
  abbrev pub rounded : History
  rounded = entry round (taken (unchoked k)) w ∷ h

  -- at each truck that sits: it is choked unless it is served, and its bytes begin anew
  pub round-marks : (fixed : Fixed) (i : ℕ) → seated h i ≡ true → (we_are_choking fixed rounded i ≡ not (served_at fixed h i)) × (sent rounded i ≡ 0)
  unfolding event
  round-marks fixed i s = (rw s, rw s)

  -- the record of a free seat stays
  pub round-spares : (fixed : Fixed) (i : ℕ) → seated h i ≡ false → record_of fixed rounded i ≡ record_of fixed h i
  unfolding event phase
  round-spares fixed i s = rw s

  -- who sits, what he has announced, whether he is fresh, and the other three marks stay everywhere
  pub round-leaves : (i : ℕ) → (seated rounded i ≡ seated h i) × ((p : ℕ) → announced rounded i p ≡ announced h i p) × (fresh rounded i ≡ fresh h i)
      × (we_are_interested rounded i ≡ we_are_interested h i) × (they_are_choking rounded i ≡ they_are_choking h i) × (they_are_interested rounded i ≡ they_are_interested h i)
  unfolding event
  round-leaves i = (refl, λ p. refl, refl, refl, refl, refl)

-- ---- a round on tables that agree with a history

module _ (fixed : Fixed) (h : History) (y : Yard) (agrees : Agrees fixed h y) where
  -- it is taken, and the tables then agree with the history after it
  pub round-after : ((step round y).answer ≡ taken (unchoked (unchokes fixed h))) × Agrees fixed (rounded h (unchokes fixed h) []) (step round y).yard
  unfolding step
  round-after =
      let k = round-kept fixed h y agrees [] in
      (k.0, subst (λ (o : Outcome Said). Agrees fixed (entry round o [] ∷ h) (round_of y).yard) k.0 k.1)

  -- on round number 0 the free place goes to the next seat, going round from the one after the last holder, or to nobody
  pub free-turns : round_number h ≡ 0
      → ((turn_of fixed h (free_place fixed h) ≡ nobody) × ((i : ℕ) → i < fixed.seats → wanting h i ≡ false))
      ⊎ ((turn_of fixed h (free_place fixed h) < fixed.seats) × (wanting h (turn_of fixed h (free_place fixed h)) ≡ true)
      × ((j : ℕ) → j < fixed.seats → wanting h j ≡ true
      → way fixed.seats (last_place fixed h) (turn_of fixed h (free_place fixed h)) ≤ way fixed.seats (last_place fixed h) j))
  free-turns e =
      let s = sizes-here fixed h y agrees in
      rw (eq-eqb (round_number h) 0 e) (next-right fixed.seats (wanting h) (last_place fixed h) (last_within fixed s.seat (omega (arith, s.seats)) h) (omega (arith, s.seats)))

-- and else its holder keeps it
pub free_stays : (fixed : Fixed) (h : History) → (round_number h ≡ 0 → ⊥) → turn_of fixed h (free_place fixed h) ≡ free_place fixed h
free_stays fixed h f = rw (ne_eqb (round_number h) 0 f)

-- after a round the free place is whose turn it was
pub free-after : (fixed : Fixed) (h : History) (k : ℕ) (w : List ℕ) → free_place fixed (rounded h k w) ≡ turn_of fixed h (free_place fixed h)
unfolding event
free-after fixed h k w = refl

-- and it last was where a round makes it have been
pub last-after : (fixed : Fixed) (h : History) (k : ℕ) (w : List ℕ) → last_place fixed (rounded h k w) ≡ last_then fixed.seats (wanting h) (round_number h) (last_place fixed h)
unfolding phase
last-after fixed h k w = refl

-- ---- whom a round unchokes

-- of those that sit at most five are served: the four, and the holder of the free place
pub served-few : (n : ℕ) (wants : ℕ → Bool) (bytes : ℕ → ℕ) (free : ℕ) (sits : ℕ → Bool) → count n (λ i. sits i && served n wants bytes free i) ≤ 5
served-few n wants bytes free sits =
    let four : ℕ → Bool = chosen n wants bytes in
    omega (
      arith,
      count-sub (λ i. sits i && served n wants bytes free i) (served n wants bytes free) n (λ i e. (both (sits i) (served n wants bytes free i) e).1),
      count-or four (λ i. eqb i free) n,
      count-sub (λ i. eqb i free && not (four i)) (λ i. eqb i free) n (λ i e. (both (eqb i free) (not (four i)) e).0),
      chosen-few n wants bytes,
      count-once (λ i. eqb i free) n (λ i j a b p q. eqb-true i free p ∙ sym (eqb-true j free q)),
    )

module _ (fixed : Fixed) (h : History) where
  -- the four: who sits and is interested, fewer than four of whom sent more bytes, or as many and sit lower
  pub chosen-exactly : (i : ℕ) → chosen fixed.seats (wanting h) (sent h) i ≡ true
      ↔ ((seated h i ≡ true) × (they_are_interested h i ≡ true) × (count fixed.seats (before (wanting h) (sent h) i) < 4))
  chosen-exactly i = (
    λ e. let a = both (wanting h i) _ e in
        let b = both (seated h i) (they_are_interested h i) a.0 in
        (b.0, b.1, ltb-true (count fixed.seats (before (wanting h) (sent h) i)) 4 a.1),
    λ (a, b, l). both_true (wanting h i) _ (both_true (seated h i) (they_are_interested h i) a b) (lt-ltb (count fixed.seats (before (wanting h) (sent h) i)) 4 l),
  )

  -- so many trucks are unchoked right after a round
  pub unchoked-after : (k : ℕ) (w : List ℕ) → count fixed.seats (λ i. seated (rounded h k w) i && not (we_are_choking fixed (rounded h k w) i)) ≡ unchokes fixed h
  unfolding event
  unchoked-after k w = count-ext _ _ fixed.seats (λ i l. go (seated h i) (served_at fixed h i) (we_are_choking fixed h i))
    where
      go : (s t c : Bool) → (s && not (cond s (not t) c)) ≡ (s && t)
      go true true c = refl
      go true false c = refl
      go false t c = refl

  pub at-most-five : unchokes fixed h ≤ 5
  at-most-five = served-few fixed.seats (wanting h) (sent h) (turn_of fixed h (free_place fixed h)) (seated h)

-- ---- 39 is not given on a run, while fewer than 2^53 bytes of blocks came in since the last round

-- a truck that sits sent no more of them than came in
module _ (i : ℕ) where
  brought : (c : Call) (a : Said) → bytes_in (meaning i c a) ≤ block_in_of c
  brought (start p l k) a = omega arith
  brought sit a = by-test (λ (v : Event). bytes_in v ≤ 0) (gives a i) (λ e. omega arith) (λ e. omega arith)
  brought (leave j) a = by-test (λ (v : Event). bytes_in v ≤ 0) (eqb i j) (λ e. omega arith) (λ e. omega arith)
  brought (feed j s) a = by-test (λ (v : Event). bytes_in v ≤ bytes_in (heard_in s (read_of s))) (eqb i j) (λ e. omega arith) (λ e. omega arith)
  brought (choke j b space) a = by-test (λ (v : Event). bytes_in v ≤ 0) (eqb i j) (λ e. omega arith) (λ e. omega arith)
  brought (interest j b space) a = by-test (λ (v : Event). bytes_in v ≤ 0) (eqb i j) (λ e. omega arith) (λ e. omega arith)
  brought (missing first space) a = omega arith
  brought scarcest a = omega arith
  brought (look j) a = omega arith
  brought (has j p) a = omega arith
  brought (count_at p) a = omega arith
  brought round a = omega arith

  module _ (s : Bool) (k m : ℕ) (within : s ≡ true → k ≤ m) where
    -- by an event that brings no more than b
    sent-more : (v : Event) (b : ℕ) → bytes_in v ≤ b → seated_by v s ≡ true → sent_by v s k ≤ m + b
    sent-more nothing b l t = omega (arith, within t)
    sent-more came b l t = omega arith
    sent-more gone b l t = omega arith
    sent-more (heard x) b l t = omega (arith, within t, l)
    sent-more (we_choke c) b l t = omega (arith, within t)
    sent-more (we_want c) b l t = omega (arith, within t)
    sent-more turned b l t = rw t (omega arith)

    taken_more : (c : Call) (a : Said) → seated_by (meaning i c a) s ≡ true → sent_by (meaning i c a) s k ≤ m + block_in_of c
    taken_more c a t = sent-more (meaning i c a) (block_in_of c) (brought c a) t

    sent-then : (c : Call) (o : Outcome Said) → seated_by (event_of i c o) s ≡ true → sent_by (event_of i c o) s k ≤ came_by (phase_of c o) (brought_by c o) m
    sent-then (start p l k) (taken a) t = omega arith
    sent-then sit (taken a) t = taken_more sit a t
    sent-then (leave j) (taken a) t = taken_more (leave j) a t
    sent-then (feed j x) (taken a) t = taken_more (feed j x) a t
    sent-then (choke j b space) (taken a) t = taken_more (choke j b space) a t
    sent-then (interest j b space) (taken a) t = taken_more (interest j b space) a t
    sent-then (missing first space) (taken a) t = taken_more (missing first space) a t
    sent-then scarcest (taken a) t = taken_more scarcest a t
    sent-then (look j) (taken a) t = taken_more (look j) a t
    sent-then (has j p) (taken a) t = taken_more (has j p) a t
    sent-then (count_at p) (taken a) t = taken_more (count_at p) a t
    sent-then round (taken a) t = rw t (omega arith)
    sent-then c (refused number place) t = sent-more nothing 0 (omega arith) t

  sent-came : (h : History) → seated h i ≡ true → sent h i ≤ came_in h
  unfolding event phase
  sent-came [] t = omega arith
  sent-came (e ∷ h) t = sent-then (seated h i) (sent h i) (came_in h) (sent-came h) e.call e.answer t

-- so by the history it has no cause
module _ (fixed : Fixed) (h : History) where
  block_in : (i : ℕ) (s : List ℕ) (m : Message (List ℕ)) (bytes : ℕ) → Says s m bytes → block_in_of (feed i s) ≡ block_bytes (sort_of m)
  block_in i s m bytes says = ap (λ (o : Outcome Found). bytes_in (heard_in s o)) says.reads ∙ ap (λ (x : Message (List ℕ)). block_bytes (sort_of x)) says.means

  pub undamaged : (c : Call) (number : ℕ) → Cause fixed h c number → number ≡ damaged → came_in h + block_in_of c < most_sent → ⊥
  undamaged c number (unfit p l k f) e few = omega arith
  undamaged c number (all-taken f) e few = omega arith
  undamaged c number (nobody_at x i o f) e few = omega arith
  undamaged c number (past-list first space l) e few = omega arith
  undamaged c number (past-look i l) e few = omega arith
  undamaged c number (past-has i p l) e few = omega arith
  undamaged c number (no_room x i space o f l) e few = omega arith
  undamaged c number (too_long i s f l) e few = omega arith
  undamaged c number (wrong-payload i s f a r) e few = omega arith
  undamaged c number (not_first i s b bytes f a q) e few = omega arith
  undamaged c number (wrong-length i s b bytes f a q d) e few = omega arith
  undamaged c number (spare-bit i s b bytes p f a q d l m r) e few = omega arith
  undamaged c number (no-such-have i s p bytes f a l) e few = omega arith
  undamaged c number (no-such-block i s m p b k bytes f a o l) e few = omega arith
  undamaged c number (no-such-has i p l m) e few = omega arith
  undamaged c number (no-such-count p l) e few = omega arith
  undamaged c number (past-piece i s m p b k bytes f a o l d) e few = omega arith
  undamaged c number (too_much i s p b block bytes sits says l f over) e few =
      omega (arith, over, few, sent-came i h sits.1, block_in i s (piece p b block) bytes says)
