-- DEMAND 3. After an accepted start and any calls, refused ones among them, the tables are what the history of calls and answers says, and so is
-- every answer. Assumes nothing.
use mathlib.Core.Path.{◌≡◌, refl, sym, ap₂, ◌∙◌, subst}
use mathlib.Core.Logic.{◌↔◌}
use mathlib.Core.Bool.{true}
use mathlib.Core.List.{List, []}
use Prim.Native.Nat.{ℕ}
use Rattle.refusal.specs.Paper.{Outcome, taken, refused}
use Rattle.refusal.proofs.Cases.{by_bool}
use Rattle.yard_tables.specs.Tables.{Yard, Said}
use Rattle.yard_tables.specs.Seating.{start_of}
use Rattle.yard_tables.specs.Step.{Call, start, sit, leave, feed, choke, interest, missing, scarcest, look, has, round, step, if_taken}
use Rattle.yard_tables.specs.Step.{count as count_at, writes as writes_in, written as written_in}
use Rattle.yard_laws.specs.History.{History, Fixed, Sizes, sizes_of}
use Rattle.yard_laws.specs.Expected.{answer, writes, output}
use Rattle.yard_laws.specs.Run.{fixed_by, start_with, Accepted, SizesFit, Run, begins, goes_on}
use Rattle.yard_laws.proofs.Agreeing.{Agrees}
use Rattle.yard_laws.proofs.Calls.{Kept, feed-kept, choke-kept, interest-kept, leave-kept}
use Rattle.yard_laws.proofs.Starting.{empty, fits_for, sized-fits, fits-sized, empty-agrees, start-kept}
use Rattle.yard_laws.proofs.Looks.{sit-kept, lines_same, missing-kept, scarcest-kept, look-kept, has_kept, count_kept}
use Rattle.yard_laws.proofs.Rounds.{round-kept}

-- ---- one call

module _ (fixed : Fixed) (h : History) (y : Yard) (agrees : Agrees fixed h y) where
  step_kept : (c : Call) (w : List ℕ) → Kept fixed h y agrees c w (step c y) (answer fixed h c)
  unfolding step
  step_kept (start p l k) w = start-kept fixed h y agrees (sizes_of p l k) w
  step_kept sit w = sit-kept fixed h y agrees w
  step_kept (leave i) w = leave-kept fixed h y agrees i w
  step_kept (feed i s) w = feed-kept fixed h y agrees i s w
  step_kept (choke i b space) w = choke-kept fixed h y agrees i b space w
  step_kept (interest i b space) w = interest-kept fixed h y agrees i b space w
  step_kept (missing first space) w = missing-kept fixed h y agrees first space w
  step_kept scarcest w = scarcest-kept fixed h y agrees w
  step_kept (look i) w = look-kept fixed h y agrees i w
  step_kept (has i p) w = has_kept fixed h y agrees i p w
  step_kept (count_at p) w = count_kept fixed h y agrees p w
  step_kept round w = round-kept fixed h y agrees w

  writes-same : (c : Call) → writes_in c y ≡ writes fixed h c
  writes-same (start p l k) = refl
  writes-same sit = refl
  writes-same (leave i) = refl
  writes-same (feed i s) = refl
  writes-same (choke i b space) = refl
  writes-same (interest i b space) = refl
  writes-same (missing first space) = lines_same fixed h y agrees first space
  writes-same scarcest = refl
  writes-same (look i) = refl
  writes-same (has i p) = refl
  writes-same (count_at p) = refl
  writes-same round = refl

  -- the answer to one more call, and what it writes
  pub answered : (c : Call) → (step c y).answer ≡ answer fixed h c
  answered c = (step_kept c []).0

  pub wrote : (c : Call) → written_in c y ≡ output fixed h c
  wrote c = ap₂ (λ (a : Outcome Said) (l : List ℕ). if_taken a l) (answered c) (writes-same c)

-- ---- an accepted start

abbrev IsTaken : Outcome Said → Type 0
IsTaken (taken a) = Unit
IsTaken (refused n p) = ⊥

module _ (z : Sizes) (y : Yard) (ok : Accepted z y) where
  accepted-fits : fits_for z y ≡ true
  unfolding step start_of
  accepted-fits = by_bool (fits_for z y) (λ e. e) (λ e. absurd (subst IsTaken (sym (rw e at ok)) tt))

  accepted-sized : SizesFit z y
  accepted-sized = fits-sized z y accepted-fits

  -- it leaves an empty yard
  pub start-leaves : (step (start_with z) y).yard ≡ empty z y
  unfolding step start_of
  start-leaves = rw accepted-fits

-- a start is accepted exactly if its sizes are legal and the tables have them, whatever is in them
pub accepted-exactly : (z : Sizes) (y : Yard) → Accepted z y ↔ SizesFit z y
unfolding step start_of
accepted-exactly z y = (accepted-sized z y, λ s. rw (sized-fits z y s))

-- ---- and any calls after it

pub run-agrees : (lent : Yard) (h : History) (y : Yard) → Run lent h y → Agrees (fixed_by lent) h y
run-agrees lent h y (begins z _ ok e) = subst (Agrees (fixed_by lent) _) (sym (e ∙ start-leaves z lent ok)) (empty-agrees [] lent z [] (accepted-fits z lent ok))
run-agrees lent h y (goes_on g x c _ r e) = subst (Agrees (fixed_by lent) _) (sym e) (step_kept (fixed_by lent) g x (run-agrees lent g x r) c (written_in c x)).1
