-- Tables that agree with a history, and that they still do after a call that is an event at one seat, and after one that leaves who sits where and what he has. Assumes nothing.
use mathlib.Core.Path.{◌≡◌, sym, ap, ap₂, ◌∙◌, subst}
use mathlib.Core.Logic.{◌≢◌}
use mathlib.Core.Bool.{Bool, true, cond, ◌&&◌}
use mathlib.Core.List.{List, ◌∷◌}
use Prim.Native.Nat.{ℕ, ◌+◌, ◌<◌}
use native.Mathlib.Omega.{arith}
use borrow.Author.Tests.{eq-eqb, ne_eqb}
use lib.Dec.{eqb}
use lib.ListN.{length, get_or, set, length-set}
use lib.Seq.{get_or-set_same, get_or-set_other, set-get_or}
use Rattle.refusal.proofs.Cases.{same_or}
use Rattle.yard_tables.specs.Counting.{bit, count}
use Rattle.yard_tables.specs.Rows.{width, has_in}
use Rattle.yard_tables.specs.Seats.{cleared, holding}
use Rattle.yard_tables.specs.Tables.{Yard, Around, Turn, Out, around, yard_of, sizes_fit}
use Rattle.yard_tables.specs.declared.Head.{Head}
use Rattle.yard_tables.specs.declared.Seat.{Seat}
use Rattle.yard_tables.proofs.Counts.{count-ext, count-change}
use Rattle.yard_laws.specs.History.{Entry, History, Fixed, Event, nothing, event, seated, announced, fresh, we_are_choking, we_are_interested, they_are_choking, they_are_interested, sent, served_at, pieces, Sizes, sizes_set, phase, still, round_number, free_place, last_place, turn_of, seated_by, announced_by, fresh_by, choking_by, wanting_by, choked_by, wanted_by, sent_by, free_by}
use Rattle.yard_laws.specs.Says.{all_of, has_piece, held, loaded, record_of, holders, taken_seats, complete_seats, head_of}

-- the tables y agree with the history h
pub record Agrees (fixed : Fixed) (h : History) (y : Yard) : Type 0 where
  pub seats-len : length y.seats ≡ fixed.seats
  pub fits : sizes_fit y.head fixed.seats (length y.rows) (length y.holders) ≡ true
  pub head-is : y.head ≡ head_of fixed h
  pub seat-is : (i : ℕ) → get_or y.seats i cleared ≡ record_of fixed h i
  pub row_is : (i p : ℕ) → i < fixed.seats → p < pieces h → has_in (width (pieces h)) y.rows i p ≡ has_piece h i p
  pub holders-is : (p : ℕ) → p < pieces h → get_or y.holders p 0 ≡ holders fixed h p

-- ---- what an event makes of seat i, by the history before it

module _ (v : Event) (h : History) (i : ℕ) where
  abbrev pub has_then : ℕ → Bool
  has_then p = seated_by v (seated h i) && announced_by v p (announced h i p)

  abbrev pub held_then_of : ℕ
  held_then_of = count (pieces h) has_then

  abbrev pub loaded_then : Bool
  loaded_then = seated_by v (seated h i) && all_of (pieces h) (λ p. announced_by v p (announced h i p))

module _ (fixed : Fixed) (v : Event) (h : History) (i : ℕ) where
  abbrev pub record_then : Seat
  record_then = record {
    taken = bit (seated_by v (seated h i));
    fresh = bit (fresh_by v (fresh h i));
    am_choking = bit (choking_by v (seated h i) (served_at fixed h i) (we_are_choking fixed h i));
    am_interested = bit (wanting_by v (we_are_interested h i));
    peer_choking = bit (choked_by v (they_are_choking h i));
    peer_interested = bit (wanted_by v (they_are_interested h i));
    held = held_then_of v h i;
    bytes = sent_by v (seated h i) (sent h i);
  }

  -- and of the free place, which only its holder's leaving takes from him
  abbrev pub free_after : ℕ
  free_after = cond (eqb (free_place fixed h) i) (free_by v (turn_of fixed h (free_place fixed h)) (free_place fixed h)) (free_place fixed h)

-- the entry e is the event v at seat i, nothing at the others, and neither a start nor a round
pub record One (e : Entry) (i : ℕ) (v : Event) : Type 0 where
  pub here : event i e ≡ v
  pub others : (j : ℕ) → j ≢ i → event j e ≡ nothing
  pub still-so : phase e ≡ still

-- a head of these sizes, with so many seats taken and complete, this round number, free place and last one
abbrev head_by : Sizes → ℕ → ℕ → ℕ → ℕ → ℕ → Head
head_by z t c r f l = record { pieces = z.pieces; piece_length = z.piece_length_of; last_length = z.last_length_of; taken = t; complete = c; round = r; free = f; last = l }

pub still-sizes : (h : History) (e : Entry) → phase e ≡ still → sizes_set (e ∷ h) ≡ sizes_set h
still-sizes h e s = rw s

-- the sizes stay, so the pieces do
module _ (h : History) (e : Entry) (same : sizes_set (e ∷ h) ≡ sizes_set h) where
  pieces-same : pieces (e ∷ h) ≡ pieces h
  pieces-same = ap (λ (z : Sizes). z.pieces) same

  module _ (i : ℕ) (v : Event) (is : event i e ≡ v) where
    seated-then : seated (e ∷ h) i ≡ seated_by v (seated h i)
    seated-then = rw is

    has-then : (p : ℕ) → has_piece (e ∷ h) i p ≡ has_then v h i p
    has-then p = rw is

    held_then : held (e ∷ h) i ≡ held_then_of v h i
    held_then =
        ap (λ (m : ℕ). count m (has_piece (e ∷ h) i)) pieces-same
        ∙ count-ext (has_piece (e ∷ h) i) (has_then v h i) (pieces h) (λ p q. has-then p)

    loaded-then : loaded (e ∷ h) i ≡ loaded_then v h i
    loaded-then =
        ap (λ (m : ℕ). seated (e ∷ h) i && all_of m (announced (e ∷ h) i)) pieces-same
        ∙ ap (λ (x : Event). seated_by x (seated h i) && all_of (pieces h) (λ p. announced_by x p (announced h i p))) is

    pub record-then : (fixed : Fixed) → record_of fixed (e ∷ h) i ≡ record_then fixed v h i
    record-then fixed = ap (λ (k : ℕ). holding k (record_of fixed (e ∷ h) i)) held_then ∙ rw is

-- ---- a call that changes one seat: the counts go with what the seat has

module _ (fixed : Fixed) (h : History) (y : Yard) (agrees : Agrees fixed h y) where
  abbrev n : ℕ
  n = fixed.seats

  -- the seat i taken out, as the history says it is
  abbrev pub at : ℕ → Around
  at i = around (head_of fixed h) (record_of fixed h i) y.rows y.holders

  abbrev pub put_back : ℕ → Turn → Out
  put_back i t = record { answer = t.answer; yard = record { head = t.after.head; seats = set y.seats i t.after.seat; rows = t.after.rows; holders = t.after.holders } }

  pub record Becomes (v : Event) (i : ℕ) (x : Around) : Type 0 where
    pub head-by : x.head ≡ head_by (sizes_set h) x.head.taken x.head.complete (round_number h) x.head.free (last_place fixed h)
    pub free-by : x.head.free ≡ free_after fixed v h i
    pub taken-by : x.head.taken + bit (seated h i) ≡ taken_seats fixed h + bit (seated_by v (seated h i))
    pub complete-by : x.head.complete + bit (loaded h i) ≡ complete_seats fixed h + bit (loaded_then v h i)
    pub seat-by : x.seat ≡ record_then fixed v h i
    pub rows-len : length x.rows ≡ length y.rows
    pub row_here : (p : ℕ) → p < pieces h → has_in (width (pieces h)) x.rows i p ≡ has_then v h i p
    pub row_other : (j p : ℕ) → j ≢ i → p < pieces h → has_in (width (pieces h)) x.rows j p ≡ has_in (width (pieces h)) y.rows j p
    pub holders-len : length x.holders ≡ length y.holders
    pub holders-by : (p : ℕ) → p < pieces h → get_or x.holders p 0 + bit (has_piece h i p) ≡ holders fixed h p + bit (has_then v h i p)

  -- the same sizes, whatever is counted
  pub head-fits : (t c r f l : ℕ) → sizes_fit (head_by (sizes_set h) t c r f l) n (length y.rows) (length y.holders) ≡ true
  unfolding sizes_fit
  head-fits t c r f l = ap (λ (k : Head). sizes_fit k n (length y.rows) (length y.holders)) (sym agrees.head-is) ∙ agrees.fits

  sized-head : (e : Entry) → sizes_set (e ∷ h) ≡ sizes_set h → (t c r f l : ℕ) → t ≡ taken_seats fixed (e ∷ h) → c ≡ complete_seats fixed (e ∷ h)
      → r ≡ round_number (e ∷ h) → f ≡ free_place fixed (e ∷ h) → l ≡ last_place fixed (e ∷ h) → head_by (sizes_set h) t c r f l ≡ head_of fixed (e ∷ h)
  sized-head e same t c r f l p q a b d = λ k. head_by (sym same k) (p k) (q k) (a k) (b k) (d k)

  module _ (e : Entry) (i : ℕ) (v : Event) (l : i < n) (one : One e i v) where
    sizes-same : sizes_set (e ∷ h) ≡ sizes_set h
    sizes-same = still-sizes h e one.still-so

    taken_then : taken_seats fixed (e ∷ h) + bit (seated h i) ≡ taken_seats fixed h + bit (seated_by v (seated h i))
    taken_then =
        let a = count-change (seated h) (seated (e ∷ h)) n i l (λ j q d. seated-then h e sizes-same j nothing (one.others j d)) in
        omega (arith, a, ap bit (seated-then h e sizes-same i v one.here))

    complete-then : complete_seats fixed (e ∷ h) + bit (loaded h i) ≡ complete_seats fixed h + bit (loaded_then v h i)
    complete-then =
        let a = count-change (loaded h) (loaded (e ∷ h)) n i l (λ j q d. loaded-then h e sizes-same j nothing (one.others j d)) in
        omega (arith, a, ap bit (loaded-then h e sizes-same i v one.here))

    holders-then : (p : ℕ) → holders fixed (e ∷ h) p + bit (has_piece h i p) ≡ holders fixed h p + bit (has_then v h i p)
    holders-then p =
        let a = count-change (λ j. has_piece h j p) (λ j. has_piece (e ∷ h) j p) n i l (λ j q d. has-then h e sizes-same j nothing (one.others j d) p) in
        omega (arith, a, ap bit (has-then h e sizes-same i v one.here p))

    free-then : free_place fixed (e ∷ h) ≡ free_after fixed v h i
    free-then =
        let k : ℕ = free_place fixed h in
        same_or k i
        (λ q. rw (eq-eqb k i q) (ap (λ (x : Event). free_by x (turn_of fixed h k) k) (ap (λ (j : ℕ). event j e) q ∙ one.here)))
        (λ d. rw (ne_eqb k i d) (ap (λ (x : Event). free_by x (turn_of fixed h k) k) (one.others k d)))

    pub change-agrees : (x : Around) → Becomes v i x → Agrees fixed (e ∷ h) (yard_of x.head (set y.seats i x.seat) x.rows x.holders)
    change-agrees x b =
        let a : x.head.taken ≡ taken_seats fixed (e ∷ h) = omega (arith, b.taken-by, taken_then) in
        let c : x.head.complete ≡ complete_seats fixed (e ∷ h) = omega (arith, b.complete-by, complete-then) in
        record {
          seats-len = length-set y.seats i _ ∙ agrees.seats-len;
          fits = ap (λ (k : Head). sizes_fit k n (length x.rows) (length x.holders)) b.head-by
              ∙ ap₂ (λ (r s : ℕ). sizes_fit (head_by (sizes_set h) x.head.taken x.head.complete (round_number h) x.head.free (last_place fixed h)) n r s) b.rows-len b.holders-len
              ∙ head-fits x.head.taken x.head.complete (round_number h) x.head.free (last_place fixed h);
          head-is = b.head-by ∙ sized-head e sizes-same x.head.taken x.head.complete (round_number h) x.head.free (last_place fixed h) a c
              (rw one.still-so) (b.free-by ∙ sym free-then) (rw one.still-so);
          seat-is = λ j. same_or j i
              (λ q. rw q (get_or-set_same y.seats i _ cleared (omega (arith, agrees.seats-len)) ∙ b.seat-by ∙ sym (record-then h e sizes-same i v one.here fixed)))
              (λ d. get_or-set_other y.seats i j _ cleared d ∙ agrees.seat-is j ∙ sym (record-then h e sizes-same j nothing (one.others j d) fixed));
          row_is = rw (pieces-same h e sizes-same) (λ j p q m. same_or j i
              (λ r. rw r (b.row_here p m ∙ sym (has-then h e sizes-same i v one.here p)))
              (λ d. b.row_other j p d m ∙ agrees.row_is j p q m ∙ sym (has-then h e sizes-same j nothing (one.others j d) p)));
          holders-is = rw (pieces-same h e sizes-same) (λ p m. omega (arith, b.holders-by p m, holders-then p));
        }

  -- ---- a call that leaves who sits where and what he has: no count changes

  module _ (e : Entry) (same : sizes_set (e ∷ h) ≡ sizes_set h) (sits : (j : ℕ) → seated_by (event j e) (seated h j) ≡ seated h j)
      (has : (j p : ℕ) → announced_by (event j e) p (announced h j p) ≡ announced h j p) where
    has-still : (j p : ℕ) → has_piece h j p ≡ has_piece (e ∷ h) j p
    has-still j p = ap₂ (λ (a b : Bool). a && b) (sym (sits j)) (sym (has j p))

    held-still : (j : ℕ) → held h j ≡ held (e ∷ h) j
    held-still j = count-ext (has_piece h j) (has_piece (e ∷ h) j) (pieces h) (λ p q. has-still j p) ∙ ap (λ (m : ℕ). count m (has_piece (e ∷ h) j)) (sym (pieces-same h e same))

    loaded-still : (j : ℕ) → loaded h j ≡ loaded (e ∷ h) j
    loaded-still j = λ k. sym (sits j) k && all_of (sym (pieces-same h e same) k) (λ p. sym (has j p) k)

    -- the seats, held apart, and the rest of the head as the history says
    pub steady-agrees : (seats : List Seat) (r f l : ℕ) → length seats ≡ n → ((j : ℕ) → get_or seats j cleared ≡ holding (held h j) (record_of fixed (e ∷ h) j))
        → r ≡ round_number (e ∷ h) → f ≡ free_place fixed (e ∷ h) → l ≡ last_place fixed (e ∷ h)
        → Agrees fixed (e ∷ h) (yard_of (head_by (sizes_set h) (taken_seats fixed h) (complete_seats fixed h) r f l) seats y.rows y.holders)
    steady-agrees seats r f l size are a b c = record {
      seats-len = size;
      fits = head-fits (taken_seats fixed h) (complete_seats fixed h) r f l;
      head-is = sized-head e same (taken_seats fixed h) (complete_seats fixed h) r f l
          (count-ext (seated h) (seated (e ∷ h)) n (λ j q. sym (sits j)))
          (count-ext (loaded h) (loaded (e ∷ h)) n (λ j q. loaded-still j))
          a b c;
      seat-is = λ j. are j ∙ ap (λ (k : ℕ). holding k (record_of fixed (e ∷ h) j)) (held-still j);
      row_is = rw (pieces-same h e same) (λ j p q m. agrees.row_is j p q m ∙ has-still j p);
      holders-is = rw (pieces-same h e same) (λ p m. agrees.holders-is p m ∙ count-ext (λ j. has_piece h j p) (λ j. has_piece (e ∷ h) j p) n (λ j q. has-still j p));
    }

  -- a call that means nothing for any seat
  module _ (e : Entry) (none : (j : ℕ) → event j e ≡ nothing) (quiet : phase e ≡ still) where
    pub quiet-agrees : Agrees fixed (e ∷ h) y
    quiet-agrees = subst (λ (k : Head). Agrees fixed (e ∷ h) (yard_of k y.seats y.rows y.holders)) (sym agrees.head-is)
        (steady-agrees e (still-sizes h e quiet) (λ j. rw (none j)) (λ j p. rw (none j)) y.seats (round_number h) (free_place fixed h) (last_place fixed h) agrees.seats-len
        (λ j. agrees.seat-is j ∙ rw (none j)) (rw quiet) (rw (none (free_place fixed h))) (rw quiet))

    -- and the seat is put back as it was
    pub quiet-back : (i : ℕ) → Agrees fixed (e ∷ h) (yard_of (head_of fixed h) (set y.seats i (record_of fixed h i)) y.rows y.holders)
    quiet-back i = subst (Agrees fixed (e ∷ h))
        (ap (λ (k : Head). yard_of k y.seats y.rows y.holders) agrees.head-is
        ∙ ap (λ (l : List Seat). yard_of (head_of fixed h) l y.rows y.holders) (sym (ap (set y.seats i) (sym (agrees.seat-is i)) ∙ set-get_or y.seats i cleared)))
        quiet-agrees
