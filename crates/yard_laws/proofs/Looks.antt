-- Sitting down, the missing list, the scarcest piece and single looks: the answer is the one that the history says. Assumes nothing.
use mathlib.Core.Path.{◌≡◌, refl, sym, ap, ap₂, ◌∙◌, subst}
use mathlib.Core.Bool.{Bool, not, cond, ◌&&◌}
use mathlib.Core.List.{List}
use Prim.Native.Nat.{ℕ}
use native.Mathlib.Omega.{arith}
use borrow.Author.Tests.{ltb-true}
use lib.Dec.{eqb, ltb, leb}
use lib.ListN.{length, get_or, take}
use Rattle.refusal.specs.Paper.{taken}
use Rattle.refusal.specs.Numbers.{full, seat, beyond}
use Rattle.yard_tables.specs.Rows.{width, has_in}
use Rattle.yard_tables.specs.Seats.{on, cleared}
use Rattle.yard_tables.specs.Tables.{Yard, listed, shows, holds, held_by_of, scarce, says, at_seat}
use Rattle.yard_tables.specs.Tables.{seated as gives_seat}
use Rattle.yard_tables.specs.Seating.{lowest_free, sit_of}
use Rattle.yard_tables.specs.Looks.{is_missing, missing_of, lines_of, fewest, place_of, scarcest_of, seat_of, has_of, count_of}
use Rattle.yard_tables.specs.Looks.{page_of as page_in}
use Rattle.yard_tables.specs.Step.{sit, missing, scarcest, look, has, count}
use Rattle.yard_tables.specs.declared.Seat.{Seat}
use Rattle.yard_tables.specs.declared.Head.{Head}
use Rattle.yard_tables.specs.declared.Page.{Page}
use Rattle.yard_tables.proofs.Flags.{on_bit}
use Rattle.yard_tables.proofs.Sizing.{Fitting}
use Rattle.yard_laws.specs.History.{History, Fixed, event, pieces, phase, seated, announced}
use Rattle.yard_laws.specs.Says.{has_piece, held, lacking, record_of, holders, head_of}
use Rattle.yard_laws.specs.View.{by_history}
use Rattle.yard_laws.specs.Expected.{no, free_by, missing_from, page_from, lowest_without, least_of}
use Rattle.yard_laws.proofs.Agreeing.{Agrees, at}
use Rattle.yard_laws.proofs.Calls.{Good, unchanged, Kept, lift, refuses, sized-good, sizes-here, sit-good, by-same}
use Rattle.yard_laws.proofs.Lowest.{lowest-is, free-is, scarcest-is}
use Rattle.yard_laws.proofs.Loading.{lacks-held}
use Rattle.yard_laws.proofs.Missing.{lines_are, page-is}

module _ (fixed : Fixed) (h : History) (y : Yard) (agrees : Agrees fixed h y) where
  abbrev n : ℕ
  n = fixed.seats

  -- ---- sitting down

  free-seat : lowest_free y.seats ≡ free_by (by_history fixed h)
  free-seat =
      free-is y.seats (seated h) (λ i. ap (λ (s : Seat). on s.taken) (agrees.seat-is i) ∙ on_bit (seated h i))
      ∙ ap (lowest_without (seated h)) agrees.seats-len

  pub sit-kept : (w : List ℕ) → Kept fixed h y agrees sit w (at_seat (lowest_free y.seats) (sit_of (lowest_free y.seats)) y)
      (cond (leb n (free_by (by_history fixed h))) (no full) (taken (gives_seat (free_by (by_history fixed h)))))
  sit-kept w = subst (λ (i : ℕ). Kept fixed h y agrees sit w (at_seat i (sit_of i) y) (cond (leb n (free_by (by_history fixed h))) (no full) (taken (gives_seat (free_by (by_history fixed h)))))) (sym free-seat)
      (lift fixed h y agrees sit w (free_by (by_history fixed h)) (sit_of (free_by (by_history fixed h))) _ (sit-good fixed h y agrees w (free_by (by_history fixed h)) (lowest-is (seated h) n).lacks))

  -- ---- the missing list

  pub lacking-is : (i : ℕ) → is_missing y.head.pieces (get_or y.seats i cleared) ≡ lacking h i
  lacking-is i =
      ap₂ (λ (k : Head) (s : Seat). is_missing k.pieces s) agrees.head-is (agrees.seat-is i)
      ∙ ap (λ (b : Bool). b && not (eqb (held h i) (pieces h))) (on_bit (seated h i))
      ∙ sym (lacks-held (seated h i) (announced h i) (pieces h))

  pub lines_same : (first space : ℕ) → lines_of y.head.pieces first space y.seats ≡ take space (missing_from fixed h first)
  lines_same = lines_are y.head.pieces (lacking h) n y.seats agrees.seats-len lacking-is

  page-same : (first space : ℕ) → page_in (pieces h) first space y.seats ≡ page_from fixed h first space
  page-same first space =
      ap (λ (k : Head). page_in k.pieces first space y.seats) (sym agrees.head-is)
      ∙ page-is y.head.pieces (lacking h) n y.seats agrees.seats-len lacking-is first space

  pub missing-kept : (first space : ℕ) (w : List ℕ) → Kept fixed h y agrees (missing first space) w (at_seat 0 (missing_of first space y.seats) y)
      (cond (leb first n) (taken (listed (page_from fixed h first space))) (no seat))
  unfolding event phase
  missing-kept first space w = lift fixed h y agrees (missing first space) w 0 (missing_of first space y.seats) _
      (sized-good fixed h y agrees (missing first space) w 0 _ _
      (by-same (Good fixed h y agrees (missing first space) w 0) (leb first n)
      (λ _. subst (λ (x : Page). Good fixed h y agrees (missing first space) w 0 (says (listed (page_in (pieces h) first space y.seats)) (at fixed h y agrees 0)) (taken (listed x)))
      (page-same first space) (unchanged (taken (listed (page_in (pieces h) first space y.seats))) (λ j. refl) refl))
      (λ _. refuses fixed h y agrees (missing first space) w 0 seat)))

  -- ---- the scarcest piece

  scarcest-same : place_of (fewest y.holders) y.holders ≡ least_of (holders fixed h) (pieces h)
  scarcest-same =
      let f : Fitting (head_of fixed h) n (length y.rows) (length y.holders) = sizes-here fixed h y agrees in
      scarcest-is y.holders (holders fixed h) (omega (arith, f.counts, f.some)) (λ q l. agrees.holders-is q (omega (arith, f.counts)))
      ∙ ap (least_of (holders fixed h)) f.counts

  pub scarcest-kept : (w : List ℕ) → Kept fixed h y agrees scarcest w (at_seat 0 scarcest_of y) (taken (scarce (least_of (holders fixed h) (pieces h))))
  unfolding scarcest_of event phase
  scarcest-kept w = lift fixed h y agrees scarcest w 0 scarcest_of _ (sized-good fixed h y agrees scarcest w 0 _ _
      (subst (λ (p : ℕ). Good fixed h y agrees scarcest w 0 (says (scarce (place_of (fewest y.holders) y.holders)) (at fixed h y agrees 0)) (taken (scarce p)))
      scarcest-same (unchanged (taken (scarce (place_of (fewest y.holders) y.holders))) (λ j. refl) refl)))

  -- ---- single looks

  pub look-kept : (i : ℕ) (w : List ℕ) → Kept fixed h y agrees (look i) w (at_seat i (seat_of i) y) (cond (ltb i n) (taken (shows (record_of fixed h i))) (no seat))
  unfolding seat_of event phase
  look-kept i w = lift fixed h y agrees (look i) w i (seat_of i) _ (sized-good fixed h y agrees (look i) w i _ _
      (by-same (Good fixed h y agrees (look i) w i) (ltb i n)
      (λ _. unchanged (taken (shows (record_of fixed h i))) (λ j. refl) refl)
      (λ _. refuses fixed h y agrees (look i) w i seat)))

  pub has_kept : (i p : ℕ) (w : List ℕ) → Kept fixed h y agrees (has i p) w (at_seat i (has_of i p) y)
      (cond (ltb i n) (cond (ltb p (pieces h)) (taken (holds (has_piece h i p))) (no beyond)) (no seat))
  unfolding has_of event phase
  has_kept i p w = lift fixed h y agrees (has i p) w i (has_of i p) _ (sized-good fixed h y agrees (has i p) w i _ _
      (by-same (Good fixed h y agrees (has i p) w i) (ltb i n)
      (λ a. by-same (Good fixed h y agrees (has i p) w i) (ltb p (pieces h))
      (λ b. subst (λ (t : Bool). Good fixed h y agrees (has i p) w i (says (holds (has_in (width (pieces h)) y.rows i p)) (at fixed h y agrees i)) (taken (holds t)))
      (agrees.row_is i p (ltb-true i n a) (ltb-true p (pieces h) b)) (unchanged (taken (holds (has_in (width (pieces h)) y.rows i p))) (λ j. refl) refl))
      (λ _. refuses fixed h y agrees (has i p) w i beyond))
      (λ _. refuses fixed h y agrees (has i p) w i seat)))

  pub count_kept : (p : ℕ) (w : List ℕ) → Kept fixed h y agrees (count p) w (at_seat 0 (count_of p) y) (cond (ltb p (pieces h)) (taken (held_by_of (holders fixed h p))) (no beyond))
  unfolding count_of event phase
  count_kept p w = lift fixed h y agrees (count p) w 0 (count_of p) _ (sized-good fixed h y agrees (count p) w 0 _ _
      (by-same (Good fixed h y agrees (count p) w 0) (ltb p (pieces h))
      (λ b. subst (λ (m : ℕ). Good fixed h y agrees (count p) w 0 (says (held_by_of (get_or y.holders p 0)) (at fixed h y agrees 0)) (taken (held_by_of m)))
      (agrees.holders-is p (ltb-true p (pieces h) b)) (unchanged (taken (held_by_of (get_or y.holders p 0))) (λ j. refl) refl))
      (λ _. refuses fixed h y agrees (count p) w 0 beyond)))
