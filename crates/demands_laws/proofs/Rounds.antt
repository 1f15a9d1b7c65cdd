-- What a round leaves of the tables, from the history before it, and of any tables; and that leaving gives the free place up. Assumes nothing.
use mathlib.Core.Path.{◌≡◌, refl, sym, ap, ◌∙◌, subst}
use mathlib.Core.Logic.{◌⊎◌, inl, inr, ⊎_elim}
use mathlib.Core.Bool.{Bool, true, false, not, cond, ◌&&◌, ◌||◌, not-not}
use mathlib.Core.List.{[]}
use Prim.Native.Nat.{ℕ, ◌≤◌, ◌<◌}
use native.Mathlib.Omega.{arith}
use borrow.Author.Tests.{eq-eqb, ne_eqb, leb-false}
use lib.Dec.{eqb, ltb, leb}
use lib.ListN.{length, get_or}
use Rattle.refusal.specs.Paper.{taken}
use Rattle.refusal.proofs.Cases.{by_bool, by-test, pick_yes, pick_no, or_right}
use Rattle.yard_tables.specs.Counting.{bit, count, some}
use Rattle.yard_tables.specs.Seats.{on, cleared, we_choke, having}
use Rattle.yard_tables.specs.Tables.{Yard, Around, Turn, around, Out, unchoked, yard_of, sizes_fit}
use Rattle.yard_tables.specs.Seating.{at_zero_of, leave_of, left as left_by_of}
use Rattle.yard_tables.specs.Rounds.{nobody, way, next_of, last_then, chosen, taken_in, wants_in, sent_in, round_seat, misplaced, head_after, served_in, round_of}
use Rattle.yard_tables.specs.Step.{leave, round, step}
use Rattle.yard_tables.specs.declared.Head.{Head}
use Rattle.yard_tables.specs.declared.Seat.{Seat}
use Rattle.yard_tables.proofs.Counts.{count-ext, some-none}
use Rattle.yard_tables.proofs.Flags.{on_bit}
use Rattle.yard_tables.proofs.Ranks.{next-right}
use Rattle.yard_tables.proofs.Sizing.{fitting}
use Rattle.yard_laws.specs.History.{History, Fixed, event, seated, wanting, sent, we_are_choking, round_number, free_place, last_place, turn_of}
use Rattle.yard_laws.specs.Says.{unchokes}
use Rattle.yard_telling.specs.Telling.{code_of}
use Rattle.yard_laws.proofs.Agreeing.{Agrees}
use Rattle.yard_laws.proofs.Damage.{some-has}
use Rattle.yard_laws.proofs.Rounds.{rounded, round-after, round-marks, round-spares, free-turns, free_stays, free-after, last-after, unchoked-after, at-most-five, seats_after, each_after, served-few}

module _ (fixed : Fixed) (h : History) (y : Yard) (agrees : Agrees fixed h y) (z : Yard) (is : z ≡ (step round y).yard) where
  abbrev n : ℕ
  n = fixed.seats

  abbrev later : History
  later = rounded h (unchokes fixed h) []

  then : Agrees fixed later z
  then = subst (Agrees fixed later) (sym is) (round-after fixed h y agrees).1

  free-is : z.head.free ≡ turn_of fixed h (free_place fixed h)
  free-is = ap (λ (x : Head). x.free) then.head-is ∙ free-after fixed h (unchokes fixed h) []

  choke-is : (i : ℕ) → on (get_or z.seats i cleared).am_choking ≡ we_are_choking fixed later i
  choke-is i = ap (λ (s : Seat). on s.am_choking) (then.seat-is i) ∙ on_bit (we_are_choking fixed later i)

  -- at each truck that sits
  pub marks-after : (i : ℕ) → seated h i ≡ true
      → ((get_or z.seats i cleared).am_choking ≡ bit (not (chosen n (wanting h) (sent h) i || eqb i z.head.free))) × ((get_or z.seats i cleared).bytes ≡ 0)
  marks-after i s =
      let m = round-marks h (unchokes fixed h) [] fixed i s in (
        ap (λ (x : Seat). x.am_choking) (then.seat-is i) ∙ ap bit m.0 ∙ ap (λ (k : ℕ). bit (not (chosen n (wanting h) (sent h) i || eqb i k))) (sym free-is),
        ap (λ (x : Seat). x.bytes) (then.seat-is i) ∙ m.1,
      )

  -- at each free seat
  pub spares-after : (i : ℕ) → seated h i ≡ false → get_or z.seats i cleared ≡ get_or y.seats i cleared
  spares-after i s = then.seat-is i ∙ round-spares h (unchokes fixed h) [] fixed i s ∙ sym (agrees.seat-is i)

  -- how many
  pub five-after : (unchokes fixed h ≡ count n (λ i. seated h i && not (on (get_or z.seats i cleared).am_choking))) × (unchokes fixed h ≤ 5)
  unfolding event
  five-after = (
    sym (unchoked-after fixed h (unchokes fixed h) []) ∙ count-ext _ _ n (λ i l. ap (λ (b : Bool). seated h i && not b) (sym (choke-is i))),
    at-most-five fixed h,
  )

  -- whose the free place is
  pub free-next : round_number h ≡ 0
      → ((z.head.free ≡ nobody) × ((i : ℕ) → i < n → wanting h i ≡ false))
      ⊎ ((z.head.free < n) × (wanting h z.head.free ≡ true)
      × ((j : ℕ) → j < n → wanting h j ≡ true → way n (last_place fixed h) z.head.free ≤ way n (last_place fixed h) j))
  free-next e = rw free-is (free-turns fixed h y agrees e)

  pub free-kept : (round_number h ≡ 0 → ⊥) → z.head.free ≡ free_place fixed h
  free-kept f = free-is ∙ free_stays fixed h f

  -- where it last was
  last-is : z.head.last ≡ last_then n (wanting h) (round_number h) (last_place fixed h)
  last-is = ap (λ (x : Head). x.last) then.head-is ∙ last-after fixed h (unchokes fixed h) []

  pub last-stays : (round_number h ≡ 0 → ⊥) → z.head.last ≡ last_place fixed h
  last-stays f = last-is ∙ rw (ne_eqb (round_number h) 0 f)

  pub last-follows : round_number h ≡ 0 → ((z.head.free ≡ nobody) × (z.head.last ≡ last_place fixed h)) ⊎ ((z.head.free < n) × (z.head.last ≡ z.head.free))
  last-follows e = go (free-next e)
    where
      go : ((z.head.free ≡ nobody) × ((i : ℕ) → i < n → wanting h i ≡ false))
          ⊎ ((z.head.free < n) × (wanting h z.head.free ≡ true)
          × ((j : ℕ) → j < n → wanting h j ≡ true → way n (last_place fixed h) z.head.free ≤ way n (last_place fixed h) j))
          → ((z.head.free ≡ nobody) × (z.head.last ≡ last_place fixed h)) ⊎ ((z.head.free < n) × (z.head.last ≡ z.head.free))
      go (inl (a, none)) = inl (a, last-is ∙ rw (some-none (wanting h) n none, eq-eqb (round_number h) 0 e))
      go (inr (l, w, m)) = inr (l, last-is ∙ rw (some-has (wanting h) n z.head.free l w, eq-eqb (round_number h) 0 e) (sym (free-is ∙ rw (eq-eqb (round_number h) 0 e))))

-- ---- on any tables

module _ (y z : Yard) (fine : code_of (step round y).answer ≡ 0) (is : z ≡ (step round y).yard) where
  abbrev pub many : ℕ
  many = count (length y.seats) (λ i. taken_in y.seats i && served_in y.head y.seats i)

  abbrev left : Out
  left = record { answer = taken (unchoked many); yard = yard_of (head_after y.head y.seats) (seats_after y) y.rows y.holders }

  -- it is not refused, so the sizes fit and nothing is misplaced
  pub round-left : step round y ≡ left
  unfolding step round_of
  round-left =
      by-test (λ (o : Out). code_of o.answer ≡ 0 → o ≡ left) (sizes_fit y.head (length y.seats) (length y.rows) (length y.holders))
      (λ a. by-test (λ (o : Out). code_of o.answer ≡ 0 → o ≡ left) (misplaced y.head (length y.seats)) (λ b e. absurd (omega arith)) (λ b e. refl))
      (λ a e. absurd (omega arith))
      fine

  yard-left : z ≡ left.yard
  yard-left = is ∙ ap (λ (o : Out). o.yard) round-left

  seat-left : (i : ℕ) → get_or z.seats i cleared ≡ round_seat (served_in y.head y.seats i) (get_or y.seats i cleared)
  seat-left i = ap (λ (x : Yard). get_or x.seats i cleared) yard-left ∙ each_after y i

  served-left : (i : ℕ) → taken_in y.seats i ≡ true
      → get_or z.seats i cleared ≡ we_choke (not (served_in y.head y.seats i)) (having 0 (get_or y.seats i cleared))
  served-left i t = seat-left i ∙ sym (pick_yes (get_or y.seats i cleared) (taken_in y.seats i) t refl)

  -- at each truck that sits
  pub marks-left : (i : ℕ) → taken_in y.seats i ≡ true
      → get_or z.seats i cleared
      ≡ we_choke (not (chosen (length y.seats) (wants_in y.seats) (sent_in y.seats) i || eqb i z.head.free)) (having 0 (get_or y.seats i cleared))
  marks-left i t =
      served-left i t
      ∙ ap (λ (k : ℕ). we_choke (not (chosen (length y.seats) (wants_in y.seats) (sent_in y.seats) i || eqb i k)) (having 0 (get_or y.seats i cleared)))
      (sym (ap (λ (x : Yard). x.head.free) yard-left))

  -- at each free seat
  pub spares-left : (i : ℕ) → taken_in y.seats i ≡ false → get_or z.seats i cleared ≡ get_or y.seats i cleared
  spares-left i f = seat-left i ∙ sym (pick_no (we_choke (not (served_in y.head y.seats i)) (having 0 (get_or y.seats i cleared))) (taken_in y.seats i) f refl)

  -- the holder, seated or not, and where the free place last was
  pub holder-left : (y.head.round ≡ 0 → ⊥) → (z.head.free ≡ y.head.free) × (z.head.last ≡ y.head.last)
  holder-left f =
      let e = ne_eqb y.head.round 0 f in (ap (λ (x : Yard). x.head.free) yard-left ∙ rw e, ap (λ (x : Yard). x.head.last) yard-left ∙ rw e)

  abbrev size : ℕ
  size = length y.seats

  abbrev Within : Out → Type 0
  Within o = code_of o.answer ≡ 0 → (y.head.last < size) × (size ≤ nobody)

  placed-last : misplaced y.head size ≡ false → y.head.last < size
  unfolding misplaced
  placed-last b =
      let here = not (eqb y.head.free nobody) && leb size y.head.free in
      leb-false size y.head.last (or_right here (leb size y.head.last) (or_right (ltb 2 y.head.round) (here || leb size y.head.last) b))

  last-seat : (y.head.last < size) × (size ≤ nobody)
  unfolding step round_of
  last-seat =
      by-test Within (sizes_fit y.head size (length y.rows) (length y.holders))
      (λ a. by-test Within (misplaced y.head size)
      (λ b e. absurd (omega arith))
      (λ b e. (placed-last b, omega (arith, (fitting y.head size (length y.rows) (length y.holders) a).seats))))
      (λ a e. absurd (omega arith))
      fine

  abbrev next : ℕ
  next = next_of size (wants_in y.seats) y.head.last

  free-left : y.head.round ≡ 0 → z.head.free ≡ next
  free-left e = ap (λ (x : Yard). x.head.free) yard-left ∙ rw (eq-eqb y.head.round 0 e)

  last-left : y.head.round ≡ 0 → z.head.last ≡ cond (some size (wants_in y.seats)) next y.head.last
  last-left e = ap (λ (x : Yard). x.head.last) yard-left ∙ rw (eq-eqb y.head.round 0 e)

  -- it is nobody's turn, and where the free place last was stays; or the next seat's, where it then last was
  abbrev pub TurnOf : ℕ → Type 0
  TurnOf free =
      ((free ≡ nobody) × ((i : ℕ) → i < size → wants_in y.seats i ≡ false) × (z.head.last ≡ y.head.last))
      ⊎ ((free < size) × (wants_in y.seats free ≡ true)
      × ((j : ℕ) → j < size → wants_in y.seats j ≡ true → way size y.head.last free ≤ way size y.head.last j) × (z.head.last ≡ free))

  pub next-left : y.head.round ≡ 0 → TurnOf z.head.free
  next-left e = subst TurnOf (sym (free-left e)) (⊎_elim
      (λ d. inl (d.0, d.1, last-left e ∙ sym (pick_no next (some size (wants_in y.seats)) (some-none (wants_in y.seats) size d.1) refl)))
      (λ d. inr (d.0, d.1, d.2, last-left e ∙ sym (pick_yes y.head.last (some size (wants_in y.seats)) (some-has (wants_in y.seats) size next d.0 d.1) refl)))
      (next-right size (wants_in y.seats) y.head.last last-seat.0 last-seat.1))

  -- how many
  pub five-left : (many ≡ count (length y.seats) (λ i. taken_in y.seats i && not (on (get_or z.seats i cleared).am_choking))) × (many ≤ 5)
  five-left = (
    count-ext _ _ (length y.seats) (λ i l. by_bool (taken_in y.seats i)
        (λ t. ap (λ (b : Bool). taken_in y.seats i && b)
        (sym (not-not (served_in y.head y.seats i)) ∙ ap not (sym (ap (λ (s : Seat). on s.am_choking) (served-left i t) ∙ on_bit (not (served_in y.head y.seats i))))))
        (λ f. let same : (c d : Bool) → (taken_in y.seats i && c) ≡ (taken_in y.seats i && d) = λ c d. rw f in same _ _)),
    served-few (length y.seats) (wants_in y.seats) (sent_in y.seats) (head_after y.head y.seats).free (taken_in y.seats),
  )

-- ---- leaving, on any tables

module _ (y : Yard) (i : ℕ) where
  abbrev here : Around
  here = around y.head (get_or y.seats i cleared) y.rows y.holders

  -- the free place is given up, and where it last was stays, unless the turn is a refusal
  abbrev GivesUp : Turn → Type 0
  GivesUp t = code_of t.answer ≡ 0 → (t.after.head.last ≡ y.head.last) × (t.after.head.free ≡ cond (eqb y.head.free i) nobody y.head.free)

  gives_up : GivesUp (leave_of i (length y.seats) here)
  unfolding leave_of left_by_of
  gives_up =
      by-test GivesUp (sizes_fit y.head (length y.seats) (length y.rows) (length y.holders))
      (λ a. by-test GivesUp (ltb i (length y.seats) && on (get_or y.seats i cleared).taken)
      (λ b. by-test GivesUp (at_zero_of i here) (λ c e. absurd (omega arith)) (λ c e. (refl, refl)))
      (λ b e. absurd (omega arith)))
      (λ a e. absurd (omega arith))

  module _ (z : Head) (fine : code_of (step (leave i) y).answer ≡ 0) (is : z ≡ (step (leave i) y).yard.head) where
    pub leave-last : z.last ≡ y.head.last
    unfolding step
    leave-last = ap (λ (h : Head). h.last) is ∙ (gives_up fine).0

    free-then : z.free ≡ cond (eqb y.head.free i) nobody y.head.free
    unfolding step
    free-then = ap (λ (h : Head). h.free) is ∙ (gives_up fine).1

    pub leave-holder : y.head.free ≡ i → z.free ≡ nobody
    leave-holder e = free-then ∙ sym (pick_yes y.head.free (eqb y.head.free i) (eq-eqb y.head.free i e) refl)

    pub leave-other : (y.head.free ≡ i → ⊥) → z.free ≡ y.head.free
    leave-other e = free-then ∙ sym (pick_no nobody (eqb y.head.free i) (ne_eqb y.head.free i e) refl)
