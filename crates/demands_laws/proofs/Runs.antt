-- Runs of the yard's definitions, and demand 3's laws of them. Assumes nothing.
use mathlib.Core.Path.{◌≡◌, refl, sym, ap, ap₂, subst, ◌∙◌}
use mathlib.Core.Logic.Iff
use mathlib.Core.Logic.{◌⊎◌, ◌↔◌}
use mathlib.Core.List.{List, [], ◌∷◌, Memᴰ as In}
use Prim.Native.Nat.{ℕ, ◌+◌, ◌-◌, ◌*◌, ◌^◌, ◌<◌}
use native.Mathlib.Omega.{arith}
use lib.ListN.{length, replicate}
use Rattle.refusal.specs.Paper.{taken, refused}
use Rattle.refusal.proofs.Cases.{by-test, no_way}
use Rattle.peer_wire.specs.Causes.{Few, Cut}
use Rattle.yard_tables.specs.Rows.{width}
use Rattle.yard_tables.specs.Rounds.{nobody}
use Rattle.yard_tables.specs.Seats.{cleared}
use Rattle.yard_tables.specs.Tables.{Yard, done, Out, wait}
use Rattle.yard_tables.specs.Seating.{start_of}
use Rattle.yard_tables.specs.Step.{Call, step, written, feed}
use Rattle.yard_telling.specs.Telling.{code_of}
use Rattle.yard_laws.specs.History.{Entry, History, Fixed, Sizes, sizes_of, entry, came_in, block_in_of}
use Rattle.yard_laws.specs.Run.{fixed_by, start_with, Accepted, Run, begins, goes_on}
use Rattle.yard_laws.specs.Causes.{Sits, WaitCause, cut_off}
use Rattle.yard_laws.proofs.Agreeing.{Agrees}
use Rattle.yard_laws.proofs.Starting.{empty, fits_for}
use Rattle.yard_laws.proofs.Theorem.{accepted-exactly, start-leaves, run-agrees}
use Rattle.yard_laws.proofs.Demand as demand
use Rattle.demands_laws.proofs.Reasons.{At, exactly, one_of}

-- a start that answers 0 is accepted
pub start-taken : (z : Sizes) (y : Yard) → code_of (step (start_with z) y).answer ≡ 0 → Accepted z y
unfolding step start_of
start-taken z y = by-test (λ (o : Out). code_of o.answer ≡ 0 → o.answer ≡ taken done) (fits_for z y) (λ f e. refl) (λ f e. absurd (omega (arith, e)))

-- ---- what is so of tables that agree with their history is so of a run's

module _ (lent : Yard) (h : History) (y : Yard) (m : Run lent h y) (c : Call) where
  abbrev fixed : Fixed
  fixed = fixed_by lent

  abbrev agrees : Agrees fixed h y
  agrees = run-agrees lent h y m

  -- a number exactly for what One/Numbers.antt says of it
  pub given : (number place : ℕ) → (step c y).answer ≡ refused number place ↔ (At fixed h c number × (place ≡ 0))
  given number place = Iff.trans (demand.fair fixed h y agrees c number place) (exactly fixed h c number place)

  pub given-one-of : (number place : ℕ) → (step c y).answer ≡ refused number place → In number (20 ∷ 21 ∷ 30 ∷ 31 ∷ 32 ∷ 33 ∷ 34 ∷ 35 ∷ 36 ∷ 37 ∷ 38 ∷ 39 ∷ [])
  given-one-of number place e = one_of fixed h c number ((demand.fair fixed h y agrees c number place).0 e).0

  pub undamaged : came_in h + block_in_of c < 2 ^ 53 → (place : ℕ) → (step c y).answer ≡ refused 39 place → ⊥
  undamaged few place = demand.never-damaged fixed h y agrees c few place

  pub waits : (step c y).answer ≡ taken wait ↔ ((i : ℕ) × (s : List ℕ) × (c ≡ feed i s) × Sits fixed h i × (Few s ⊎ Cut s))
  waits = Iff.trans (demand.fair-wait fixed h y agrees c) (go c, λ q. subst (WaitCause fixed h) (sym q.2) (cut_off q.0 q.1 q.3 q.4))
    where
      go : (c : Call) → WaitCause fixed h c → (i : ℕ) × (s : List ℕ) × (c ≡ feed i s) × Sits fixed h i × (Few s ⊎ Cut s)
      go c (cut_off i s g w) = (i, s, refl, g, w)

-- ---- the history fixes the tables

empty-same : (z : Sizes) (lent other : Yard) → fixed_by lent ≡ fixed_by other → Accepted z lent → Accepted z other → empty z lent ≡ empty z other
empty-same z lent other e a b =
    let s = (accepted-exactly z lent).0 a in
    let t = (accepted-exactly z other).0 b in
    let n : length lent.seats ≡ length other.seats = ap (λ (x : Fixed). x.seats) e in
    go (length lent.seats) (length other.seats) (length lent.rows) (length other.rows) (length lent.holders) (length other.holders) n
    (s.rows_fit ∙ ap (λ (n : ℕ). n * width z.pieces) n ∙ sym t.rows_fit) (s.holders-fit ∙ sym t.holders-fit)
  where
    of : ℕ → ℕ → ℕ → Yard
    of n r c = record {
      head = record { pieces = z.pieces; piece_length = z.piece_length_of; last_length = z.last_length_of; taken = 0; complete = 0; round = 0; free = nobody; last = n - 1 };
      seats = replicate n cleared;
      rows = replicate r 0;
      holders = replicate c 0;
    }

    go : (n m r s c d : ℕ) → n ≡ m → r ≡ s → c ≡ d → of n r c ≡ of m s d
    go n m r s c d e f g = rw (e, f, g)

-- a start is known by its sizes
start-sizes : (a b : Sizes) → start_with a ≡ start_with b → a ≡ b
start-sizes a b e = go a.pieces b.pieces a.piece_length_of b.piece_length_of a.last_length_of b.last_length_of (cc) (cc) (cc)
  where
    go : (p q l m k j : ℕ) → p ≡ q → l ≡ m → k ≡ j → sizes_of p l k ≡ sizes_of q m j
    go p q l m k j e f g = rw (e, f, g)

-- a run has made a call
some-call : (lent : Yard) (h : History) (y : Yard) → Run lent h y → [] ≡ h → ⊥
some-call lent h y (begins z _ ok e) q = no_way (cc)
some-call lent h y (goes_on g x c _ r e) q = no_way (cc)

-- two runs with the same history, on tables that fix the same, have the same tables, byte for byte
pub run-same : (lent other : Yard) → fixed_by lent ≡ fixed_by other → (h g : History) (y z : Yard) → Run lent h y → Run other g z → h ≡ g → y ≡ z
run-same lent other same h g y z (begins a _ ok e) (begins b _ fine f) q =
    let first : entry (start_with a) (taken done) [] ≡ entry (start_with b) (taken done) [] = cc in
    let ab : a ≡ b = start-sizes a b (ap (λ (x : Entry). x.call) first) in
    e ∙ start-leaves a lent ok ∙ empty-same a lent other same ok (subst (λ (x : Sizes). Accepted x other) (sym ab) fine) ∙ ap (λ (x : Sizes). empty x other) ab ∙ sym (f ∙ start-leaves b other fine)
run-same lent other same h g y z (begins a _ ok e) (goes_on k x c _ r f) q = absurd (some-call other k x r (cc))
run-same lent other same h g y z (goes_on j x c _ r e) (begins b _ fine f) q = absurd (some-call lent j x r (cc))
run-same lent other same h g y z (goes_on j x c _ r e) (goes_on k w d _ s f) q =
    let newest : entry c (step c x).answer (written c x) ≡ entry d (step d w).answer (written d w) = cc in
    let cd : c ≡ d = ap (λ (x : Entry). x.call) newest in
    let jk : j ≡ k = cc in
    e ∙ ap₂ (λ (a : Call) (b : Yard). (step a b).yard) cd (run-same lent other same j k x w r s jk) ∙ sym f
