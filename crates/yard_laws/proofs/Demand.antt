-- DEMAND 3, statement by statement: what is so of tables y that agree with a history h, as they do after an accepted start and any calls
-- (`run-agrees`: Theorem.antt). Assumes nothing.
use mathlib.Core.Path.{◌≡◌, refl, sym, ap, ◌∙◌}
use mathlib.Core.Logic.{◌↔◌}
use mathlib.Core.List.{List}
use Prim.Native.Nat.{ℕ, ◌+◌, ◌≤◌, ◌<◌}
use native.Mathlib.Omega.{arith}
use lib.ListN.{length, get_or}
use Rattle.refusal.specs.Paper.{Outcome, taken, refused}
use Rattle.refusal.specs.Numbers.{damaged}
use Rattle.refusal.specs.Limits.{most_sent}
use Rattle.refusal.proofs.Cases.{both}
use Rattle.yard_tables.specs.Counting.{count, Least}
use Rattle.yard_tables.proofs.Counts.{count-le, count-sub}
use Rattle.yard_tables.proofs.Flags.{on_bit}
use Rattle.yard_tables.specs.Seats.{on, cleared}
use Rattle.yard_tables.specs.Tables.{Yard, Said, wait, serve, dropped, scarce, seated as gives_seat, sizes_fit}
use Rattle.yard_tables.specs.Step.{Call, sit, scarcest, step, written}
use Rattle.yard_tables.specs.declared.Head.{Head}
use Rattle.yard_tables.specs.declared.Seat.{Seat}
use Rattle.yard_laws.specs.History.{History, Fixed, seated, announced, pieces, block_in_of, came_in}
use Rattle.yard_laws.specs.Says.{has_piece, loaded, all_of, holders, Lowest}
use Rattle.yard_laws.specs.Expected.{answer}
use Rattle.yard_laws.specs.Causes.{Sits, Cause, WaitCause, Serves, Drops}
use Rattle.yard_laws.specs.Given.{Gives, seats, picks, Writes}
use Rattle.yard_laws.specs.Damage.{Fit, Taken}
use Rattle.yard_laws.proofs.Agreeing.{Agrees}
use Rattle.yard_laws.proofs.Calls.{sizes-here}
use Rattle.yard_laws.proofs.Rounds.{undamaged}
use Rattle.yard_laws.proofs.Theorem.{answered, wrote}
use Rattle.yard_laws.proofs.Fair.{refused-exactly, wait-exactly-when, taken-without}
use Rattle.yard_laws.proofs.Serving.{serve-exactly, drop-exactly}
use Rattle.yard_laws.proofs.Damage.{fit_is}
use Rattle.yard_laws.proofs.Given.{given-exactly, writes-exactly}

module _ (fixed : Fixed) (h : History) (y : Yard) (agrees : Agrees fixed h y) where
  -- S
  abbrev n : ℕ
  n = fixed.seats

  -- ---- 10: who sits, and who is complete

  pub seated-right : y.head.taken ≡ count n (seated h)
  seated-right = ap (λ (k : Head). k.taken) agrees.head-is

  pub complete-right : y.head.complete ≡ count n (loaded h)
  complete-right = ap (λ (k : Head). k.complete) agrees.head-is

  -- the sizes of the tables fit
  pub sizes-fit : Fit y
  sizes-fit = fit_is y (ap (λ (k : ℕ). sizes_fit y.head k (length y.rows) (length y.holders)) agrees.seats-len ∙ agrees.fits)

  -- a truck that sits by the history does so by the tables
  pub sits-taken : (i : ℕ) → Sits fixed h i → Fit y × Taken y i
  sits-taken i sits = (
    sizes-fit,
    (omega (arith, agrees.seats-len, sits.0), ap (λ (x : Seat). on x.taken) (agrees.seat-is i) ∙ on_bit (seated h i) ∙ sits.1),
  )

  -- ---- 11: no count passes what it could reach

  held-top : (i : ℕ) → (get_or y.seats i cleared).held ≤ pieces h
  held-top i =
      let e : (get_or y.seats i cleared).held ≡ count (pieces h) (has_piece h i) = ap (λ (s : Seat). s.held) (agrees.seat-is i) in
      omega (arith, e, count-le (has_piece h i) (pieces h))

  pub tops : ((p : ℕ) → p < pieces h → get_or y.holders p 0 ≤ n) × ((i : ℕ) → i < n → (get_or y.seats i cleared).held ≤ pieces h) × (y.head.taken ≤ n) × (y.head.complete ≤ n)
  tops = (
    λ p l. omega (arith, agrees.holders-is p l, count-le (λ i. has_piece h i p) n),
    λ i l. held-top i,
    omega (arith, seated-right, count-le (seated h) n),
    omega (arith, complete-right, count-le (loaded h) n),
  )

  -- a piece has no more holders than trucks sit, no more seats are complete than taken, and no truck holds more pieces than there are
  pub reach : ((p : ℕ) → p < pieces h → get_or y.holders p 0 ≤ y.head.taken) × (y.head.complete ≤ y.head.taken) × ((i : ℕ) → i < n → (get_or y.seats i cleared).held ≤ pieces h)
  reach = (
    λ p l. omega (arith, agrees.holders-is p l, seated-right, count-sub (λ i. has_piece h i p) (seated h) n (λ i e. (both (seated h i) (announced h i p) e).0)),
    omega (arith, complete-right, seated-right, count-sub (loaded h) (seated h) n (λ i e. (both (seated h i) (all_of (pieces h) (announced h i)) e).0)),
    λ i l. held-top i,
  )

  -- ---- 12: every refusal and every wait has its listed cause, and where a cause holds it is given; without one the call is taken

  module _ (c : Call) where
    -- what is so of the answer by the history is so of the yard's
    so : {Q : Type 0} {a : Outcome Said} → answer fixed h c ≡ a ↔ Q → (step c y).answer ≡ a ↔ Q
    so f = let e = answered fixed h y agrees c in (λ q. f.0 (sym e ∙ q), λ q. e ∙ f.1 q)

    pub fair : (number place : ℕ) → (step c y).answer ≡ refused number place ↔ (Cause fixed h c number × (place ≡ 0))
    fair number place = so (refused-exactly fixed h c number place)

    pub fair-wait : (step c y).answer ≡ taken wait ↔ WaitCause fixed h c
    fair-wait = so (wait-exactly-when fixed h c)

    pub fair-taken : ((number : ℕ) → Cause fixed h c number → ⊥) → (a : Said) × ((step c y).answer ≡ taken a)
    fair-taken f = let t = taken-without fixed h c f in (t.0, answered fixed h y agrees c ∙ t.1)

    -- and the answer is the one that is given
    pub given-right : (a : Said) → (step c y).answer ≡ taken a ↔ Gives fixed h c a
    given-right a = so (given-exactly fixed h (sizes-here fixed h y agrees).some c a)

    -- and it writes what is said beside it
    pub writes-right : (w : List ℕ) → written c y ≡ w ↔ Writes fixed h c w
    writes-right w = let e = wrote fixed h y agrees c in let f = writes-exactly fixed h c w in (λ q. f.0 (sym e ∙ q), λ q. e ∙ f.1 q)

    -- none is refused as damaged, where fewer than 2^53 bytes of blocks came in since the last round, those of this call among them
    pub never-damaged : came_in h + block_in_of c < most_sent → (place : ℕ) → (step c y).answer ≡ refused damaged place → ⊥
    never-damaged few place e = undamaged fixed h c damaged ((fair damaged place).0 e).0 refl few

    -- a request is served exactly if we don't choke and they are interested
    pub serves-right : (bytes : ℕ) → (step c y).answer ≡ taken (serve bytes) ↔ Serves fixed h c bytes
    serves-right bytes = so (serve-exactly fixed h c bytes)

    pub drops-right : (bytes : ℕ) → (step c y).answer ≡ taken (dropped bytes) ↔ Drops fixed h c bytes
    drops-right bytes = so (drop-exactly fixed h c bytes)

  -- a seat that is given is the lowest free one
  pub sits-lowest : (i : ℕ) → (step sit y).answer ≡ taken (gives_seat i) → (i < n) × Lowest (seated h) n i
  sits-lowest i e = go ((given-right sit (gives_seat i)).0 e)
    where
      go : Gives fixed h sit (gives_seat i) → (i < n) × Lowest (seated h) n i
      go (seats _ l w) = (l, w)

  -- ---- 14: the smallest number among the pieces with fewest holders

  pub scarcest-right : (p : ℕ) → (step scarcest y).answer ≡ taken (scarce p) → Least (holders fixed h) (pieces h) p
  scarcest-right p e = go ((given-right scarcest (scarce p)).0 e)
    where
      go : Gives fixed h scarcest (scarce p) → Least (holders fixed h) (pieces h) p
      go (picks _ w) = w
