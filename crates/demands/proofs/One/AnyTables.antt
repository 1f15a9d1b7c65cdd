-- On any tables, whatever made them: 20, 21, 30 to 37 and wait are given exactly when their cause holds by what the tables say. 38 and 39 are in One/Numbers.antt. r is the
-- number that C gets, as the contract of the call permits it (`Permits`: Program.antt), 255 for a wait; `by_tables` is who sits, who is fresh, the sizes and the marks
-- (yard_laws/specs/View.antt). And what a round leaves of them, leaving of the free place, and what pages of the missing list yield. Assumes nothing.
use Rattle.std.specs.Prelude.{◌≡◌, refl, ◌⊎◌, ◌↔◌, true, false, not, ◌&&◌, ◌||◌, List, ℕ, ◌≤◌, ◌<◌, eqb, length, get_or}
use Rattle.std.proofs.Common.{sym, ap, ◌∙◌, arith}
use mathlib.Core.Logic.Iff
use Rattle.paging_laws.specs.Pages.{Printed, Follows}
use Rattle.yard_tables.specs.Counting.{count}
use Rattle.yard_tables.specs.Seats.{on, cleared, we_choke, having}
use Rattle.yard_tables.specs.Tables.{Yard, Out, yard_of}
use Rattle.yard_tables.specs.Rounds.{nobody, way, taken_in, wants_in, sent_in, chosen}
use Rattle.yard_tables.specs.Step.{Call, step}
use Rattle.yard_tables.specs.declared.Seat.{Seat}
use Rattle.yard_telling.specs.Telling.{code_of, told_of}
use Rattle.yard_telling.specs.declared.Told.{Told}
use Rattle.yard_laws.specs.View.{by_tables}
use Rattle.yard_laws.specs.Causes.{CauseBy, WaitBy}
use Rattle.yard_laws.specs.Damage.{Fit}
use Rattle.yard_laws.proofs.OnTables as tables
use Rattle.demands_laws.specs.Paging.{Paged}
use Rattle.demands_laws.proofs.Numbered.{number-given, number-waits}
use Rattle.demands_laws.proofs.Tables.{on-tables, no-wait}
use Rattle.demands_laws.proofs.Rounds as after-round
use Rattle.demands.specs.One.{Lent, before, after}
use Rattle.demands.specs.One.Doors.Yard as yard
use Rattle.demands.specs.Program.{Tables, found, Permits, Asks}
use Rattle.demands.proofs.Program.{permits-step, asks-paged}

module _ (t : Tables) (c : Call) (r : ℕ) (z : Yard) (e : Permits t c r z) where
  pub tables-refuse : (number : ℕ) → 1 ≤ number → number < 38 → r ≡ number ↔ (Fit (found t) × CauseBy (by_tables (found t)) c number)
  tables-refuse number a b = number-given (permits-step t c r z e).0 number a (omega arith) (on-tables (found t) c number b)

  pub tables-wait : r ≡ 255 ↔ (Fit (found t) × WaitBy (by_tables (found t)) c)
  tables-wait = Iff.trans (number-waits (permits-step t c r z e).0 (no-wait (found t) c)) (tables.wait-exactly (found t) c)

-- ---- document 02, ticket 6: a round that is not refused. `free` has the free place then

module _ (t : Tables) (r : ℕ) (told : Lent Told) (e : yard.round-ensures t.rows t.holders r t.head t.seats told) (unrefused : r ≡ 0) where
  abbrev seats : List Seat
  seats = before t.seats

  abbrev then : Yard
  then = yard_of (after t.head) (after t.seats) (before t.rows) (before t.holders)

  abbrev free : ℕ
  free = (after t.head).free

  fine : code_of (step Call.round (found t)).answer ≡ 0
  fine = sym e.0 ∙ unrefused

  -- at each taken seat our choke mark goes off at the four and at the holder of the free place, and on at every other; the bytes are cleared, and all else stays
  pub tables-marks : (i : ℕ) → taken_in seats i ≡ true
      → get_or (after t.seats) i cleared ≡ we_choke (not (chosen (length seats) (wants_in seats) (sent_in seats) i || eqb i free)) (having 0 (get_or seats i cleared))
  tables-marks = after-round.marks-left (found t) then fine e.2

  -- "Records of free seats stay"
  pub tables-spares : (i : ℕ) → taken_in seats i ≡ false → get_or (after t.seats) i cleared ≡ get_or seats i cleared
  tables-spares = after-round.spares-left (found t) then fine e.2

  -- "On round number 0 the free place goes to the next seat", whose turn it is by the seats' own records; or "to nobody if no seat is interested, and `last` then stays"
  pub tables-next : (before t.head).round ≡ 0
      → ((free ≡ nobody) × ((i : ℕ) → i < length seats → wants_in seats i ≡ false) × ((after t.head).last ≡ (before t.head).last))
      ⊎ ((free < length seats) × (wants_in seats free ≡ true)
      × ((j : ℕ) → j < length seats → wants_in seats j ≡ true → way (length seats) (before t.head).last free ≤ way (length seats) (before t.head).last j)
      × ((after t.head).last ≡ free))
  tables-next = after-round.next-left (found t) then fine e.2

  -- on other rounds "a free place that names a free seat is kept", as any other is
  pub tables-holder : ((before t.head).round ≡ 0 → ⊥) → (free ≡ (before t.head).free) × ((after t.head).last ≡ (before t.head).last)
  tables-holder = after-round.holder-left (found t) then fine e.2

  -- "how many trucks are now unchoked": of the taken seats, and at most five
  pub tables-five : ((after told).value ≡ count (length seats) (λ i. taken_in seats i && not (on (get_or (after t.seats) i cleared).am_choking))) × ((after told).value ≤ 5)
  tables-five =
      let v : (after told).value ≡ after-round.many (found t) then fine e.2 =
      ap (λ (x : Told). x.value) (e.1 ∙ ap (λ (o : Out). told_of o.answer (before told)) (after-round.round-left (found t) then fine e.2)) in
      let k = after-round.five-left (found t) then fine e.2 in
      (v ∙ k.0, rw v k.1)

-- "Leaving gives it up: the free place becomes nobody, `last` stays"
pub tables-given-up : (t : Tables) (i r : ℕ) → yard.leave-ensures i r t.head t.seats t.rows t.holders → r ≡ 0
    → ((after t.head).last ≡ (before t.head).last)
    × ((before t.head).free ≡ i → (after t.head).free ≡ nobody)
    × (((before t.head).free ≡ i → ⊥) → (after t.head).free ≡ (before t.head).free)
tables-given-up t i r e unrefused =
    let fine : code_of (step (Call.leave i) (found t)).answer ≡ 0 = sym e.0 ∙ unrefused in
    let is : after t.head ≡ (step (Call.leave i) (found t)).yard.head = ap (λ (x : Yard). x.head) e.1 in
    (after-round.leave-last (found t) i (after t.head) fine is, after-round.leave-holder (found t) i (after t.head) fine is, after-round.leave-other (found t) i (after t.head) fine is)

-- ---- document 02, ticket 7: paging, with "taken and held not P" of the seats' own records in place of the history

pub tables-paging : (y : Yard) → Fit y → (pages : List (Printed ℕ)) (next : ℕ) → Follows Asks (length y.seats) y 0 pages next
    → Paged (λ i. taken_in y.seats i && not (eqb (get_or y.seats i cleared).held y.head.pieces)) (length y.seats) pages next
tables-paging y fit = asks-paged y fit _ (λ j. refl)
