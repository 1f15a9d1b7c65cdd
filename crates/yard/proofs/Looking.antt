-- A look changes nothing, whatever it answers: the tables after it are those before, so a look is a step of a run too. Assumes nothing.
use mathlib.Core.Path.{◌≡◌, refl, ap, ◌∙◌}
use mathlib.Core.List.{List}
use Prim.Native.Nat.{ℕ}
use lib.Dec.{ltb, leb}
use lib.ListN.{length, get_or, set}
use lib.Seq.{set-get_or}
use Rattle.refusal.proofs.Cases.{by-test}
use Rattle.yard_tables.specs.Seats.{cleared}
use Rattle.yard_tables.specs.Tables.{Yard, Around, Turn, around, sizes_fit, sized, yard_of, at_seat}
use Rattle.yard_tables.specs.Looks.{missing_of, scarcest_of, seat_of, has_of, count_of}
use Rattle.yard_tables.specs.Step.{missing, scarcest, look, has, count, step}
use Rattle.yard_tables.specs.declared.Seat.{Seat}

module _ (x : Around) where
  abbrev Same : Turn → Type 0
  Same t = t.after ≡ x

  sized_same : (n : ℕ) (t : Turn) → Same t → Same (sized n x t)
  sized_same n t k = by-test Same (sizes_fit x.head n (length x.rows) (length x.holders)) (λ e. k) (λ e. refl)

module _ (y : Yard) where
  abbrev At : ℕ → Around
  At i = around y.head (get_or y.seats i cleared) y.rows y.holders

  abbrev S : ℕ
  S = length y.seats

  back : (i : ℕ) (f : ℕ → Around → Turn) → Same (At i) (f S (At i)) → (at_seat i f y).yard ≡ y
  back i f k =
      ap (λ (x : Around). yard_of x.head (set y.seats i x.seat) x.rows x.holders) k
      ∙ ap (λ (l : List Seat). yard_of y.head l y.rows y.holders) (set-get_or y.seats i cleared)

  pub missing-changes-nothing : (first space : ℕ) → (step (missing first space) y).yard ≡ y
  unfolding step
  missing-changes-nothing first space = back 0 (missing_of first space y.seats) (sized_same (At 0) S _ (by-test (Same (At 0)) (leb first S) (λ e. refl) (λ e. refl)))

  pub scarcest-changes-nothing : (step scarcest y).yard ≡ y
  unfolding step scarcest_of
  scarcest-changes-nothing = back 0 scarcest_of (sized_same (At 0) S _ refl)

  pub look-changes-nothing : (i : ℕ) → (step (look i) y).yard ≡ y
  unfolding step seat_of
  look-changes-nothing i = back i (seat_of i) (sized_same (At i) S _ (by-test (Same (At i)) (ltb i S) (λ e. refl) (λ e. refl)))

  pub has-changes-nothing : (i p : ℕ) → (step (has i p) y).yard ≡ y
  unfolding step has_of
  has-changes-nothing i p = back i (has_of i p) (sized_same (At i) S _ (by-test (Same (At i)) (ltb i S) (λ e. by-test (Same (At i)) (ltb p y.head.pieces) (λ f. refl) (λ f. refl)) (λ e. refl)))

  pub count-changes-nothing : (p : ℕ) → (step (count p) y).yard ≡ y
  unfolding step count_of
  count-changes-nothing p = back 0 (count_of p) (sized_same (At 0) S _ (by-test (Same (At 0)) (ltb p y.head.pieces) (λ e. refl) (λ e. refl)))
