-- One seat more, case by case. Assumes nothing.
use mathlib.Core.Path.{◌≡◌, refl, sym, ap, subst, ◌∙◌}
use mathlib.Core.Logic.{◌⊎◌, inl, inr}
use mathlib.Core.Bool.{Bool, true, false, cond, ◌&&◌, not}
use mathlib.Core.List.{List}
use Prim.Native.Nat.{ℕ, ◌+◌, ◌<◌, ◌≤◌}
use native.Mathlib.Omega.{arith}
use borrow.Author.Tests.{lt-ltb, le-ltb, ltb-true, ltb-false, eq-eqb, ne_eqb}
use lib.Dec.{ltb, eqb}
use lib.ListN.{set}
use Rattle.yard_tables.specs.Seats.{on}
use Rattle.yard_tables.specs.Looks.{is_missing}
use Rattle.yard_tables.specs.declared.Seat.{Seat}
use Rattle.yard_tables.specs.declared.Page.{Page}
use Rattle.yard_scans.specs.declared.Asked.{Asked}
use Rattle.yard_scans.specs.Pages.{line_of, counted, listed, passed, page_step, line_step}

pub by-test : (t : Bool) → (t ≡ true) ⊎ (t ≡ false)
by-test true = inl refl
by-test false = inr refl

pub pick_yes : {A : Type 0} (t : Bool) (x y : A) → t ≡ true → cond t x y ≡ x
pick_yes t x y e = ap (λ (b : Bool). cond b x y) e

pub pick_no : {A : Type 0} (t : Bool) (x y : A) → t ≡ false → cond t x y ≡ y
pick_no t x y e = ap (λ (b : Bool). cond b x y) e

-- ---- a page
lacks : (t u : Bool) → t ≡ true → u ≡ false → t && not u ≡ true
lacks t u e f = rw (e, f)

lacks-free : (t u : Bool) → t ≡ false → t && not u ≡ false
lacks-free t u e = rw e

lacks-none : (t u : Bool) → t ≡ true → u ≡ true → t && not u ≡ false
lacks-none t u e f = rw (e, f)

pub missing-is : (n : ℕ) (s : Seat) → on s.taken ≡ true → (s.held ≡ n → ⊥) → is_missing n s ≡ true
missing-is n s e f = lacks (on s.taken) (eqb s.held n) e (ne_eqb s.held n f)

pub missing-free : (n : ℕ) (s : Seat) → on s.taken ≡ false → is_missing n s ≡ false
missing-free n s e = lacks-free (on s.taken) (eqb s.held n) e

pub missing-whole : (n : ℕ) (s : Seat) → on s.taken ≡ true → s.held ≡ n → is_missing n s ≡ false
missing-whole n s e f = lacks-none (on s.taken) (eqb s.held n) e (eq-eqb s.held n f)

module _ {A : Type 0} (t u v : Bool) (early line past skip : A) where
  abbrev chosen : A
  chosen = cond t (cond u early (cond v line past)) skip

  chosen-skip : t ≡ false → chosen ≡ skip
  chosen-skip e = pick_no t _ skip e

  chosen-early : t ≡ true → u ≡ true → chosen ≡ early
  chosen-early e f = pick_yes t (cond u early (cond v line past)) skip e ∙ pick_yes u early (cond v line past) f

  chosen-line : t ≡ true → u ≡ false → v ≡ true → chosen ≡ line
  chosen-line e f g = pick_yes t (cond u early (cond v line past)) skip e ∙ pick_no u early (cond v line past) f ∙ pick_yes v line past g

  chosen-past : t ≡ true → u ≡ false → v ≡ false → chosen ≡ past
  chosen-past e f g = pick_yes t (cond u early (cond v line past)) skip e ∙ pick_no u early (cond v line past) f ∙ pick_no v line past g

module _ (a : Asked) (p : Page) (s : Seat) (i : ℕ) (l : List ℕ) where
  abbrev T : Bool
  T = is_missing a.pieces s

  abbrev U : Bool
  U = ltb i a.first

  abbrev Room : Bool
  Room = ltb p.written a.lines

  pub step_skip : is_missing a.pieces s ≡ false → (page_step a p s i ≡ p) × (line_step a p s i l ≡ l)
  unfolding page_step line_step
  step_skip e = (chosen-skip T U Room (counted p) (listed p) (passed i p) p e, chosen-skip T U Room l (set l p.written (line_of i)) l l e)

  pub step-early : is_missing a.pieces s ≡ true → i < a.first → (page_step a p s i ≡ counted p) × (line_step a p s i l ≡ l)
  unfolding page_step line_step
  step-early e f =
      let f' = lt-ltb i a.first f in
      (chosen-early T U Room (counted p) (listed p) (passed i p) p e f', chosen-early T U Room l (set l p.written (line_of i)) l l e f')

  pub step_line : is_missing a.pieces s ≡ true → a.first ≤ i → p.written < a.lines → (page_step a p s i ≡ listed p) × (line_step a p s i l ≡ set l p.written (line_of i))
  unfolding page_step line_step
  step_line e f g =
      let f' = le-ltb i a.first f in
      let g' = lt-ltb p.written a.lines g in
      (chosen-line T U Room (counted p) (listed p) (passed i p) p e f' g', chosen-line T U Room l (set l p.written (line_of i)) l l e f' g')

  pub step_past : is_missing a.pieces s ≡ true → a.first ≤ i → a.lines ≤ p.written → (page_step a p s i ≡ passed i p) × (line_step a p s i l ≡ l)
  unfolding page_step line_step
  step_past e f g =
      let f' = le-ltb i a.first f in
      let g' = le-ltb p.written a.lines g in
      (chosen-past T U Room (counted p) (listed p) (passed i p) p e f' g', chosen-past T U Room l (set l p.written (line_of i)) l l e f' g')

  -- a step counts at most one seat, and lists none that it does not count
  pub step-bounds : p.written ≤ p.total → p.total ≤ i → ((page_step a p s i).written ≤ (page_step a p s i).total) × ((page_step a p s i).total ≤ i + 1)
  step-bounds f g = elim (by-test T) [
    | inl t ↦ elim (by-test U) [
      | inl u ↦ bounds (counted p) (step-early t (ltb-true i a.first u)).0 (omega arith) (omega arith)
      | inr u ↦ elim (by-test Room) [
        | inl v ↦ bounds (listed p) (step_line t (ltb-false i a.first u) (ltb-true p.written a.lines v)).0 (omega arith) (omega arith)
        | inr v ↦ bounds (passed i p) (step_past t (ltb-false i a.first u) (ltb-false p.written a.lines v)).0 (omega arith) (omega arith)
      ]
    ]
    | inr t ↦ bounds p (step_skip t).0 f (omega arith)
  ]
    where
      bounds : (q : Page) → page_step a p s i ≡ q → q.written ≤ q.total → q.total ≤ i + 1 → ((page_step a p s i).written ≤ (page_step a p s i).total) × ((page_step a p s i).total ≤ i + 1)
      bounds q e h j = (subst (λ (z : Page). z.written ≤ z.total) (sym e) h, subst (λ (z : Page). z.total ≤ i + 1) (sym e) j)
