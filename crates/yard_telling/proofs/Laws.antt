-- What the yard's calls from C permit: one answer and one content of all that is lent, and nothing changed where the answer is not 0. Assumes nothing.
-- The laws are stated at any call, so they serve each export.
use mathlib.Core.Path.{◌≡◌, refl, sym, ◌∙◌}
use Prim.Native.Nat.{ℕ}
use Rattle.refusal.specs.Paper.{Outcome, refused, taken}
use Rattle.yard_tables.proofs.Keeping.{Unused, step_keeps}
use Rattle.yard_tables.specs.Tables.{Yard, Out, Said, wait, done, used, serve, dropped, seated, wrote, listed, shows, holds, held_by_of, scarce, unchoked}
use Rattle.yard_tables.specs.Step.{Call, step}
use Rattle.yard_tables.specs.declared.Seat.{Seat}
use Rattle.yard_telling.specs.Telling.{code_of, told_of, shown_of, Steps, Tells, Looks, Shows}
use Rattle.yard_telling.specs.declared.Told.{Told}

-- ---- one answer

pub steps-determined : (o : Out) (r n : ℕ) (z z' : Yard) → Steps o r z → Steps o n z' → (r ≡ n) × (z ≡ z')
steps-determined o r n z z' e f = (e.0 ∙ sym f.0, e.1 ∙ sym f.1)

pub tells-determined : (o : Out) (was : Told) (r n : ℕ) (t t' : Told) (z z' : Yard) → Tells o was r t z → Tells o was n t' z' → (r ≡ n) × (t ≡ t') × (z ≡ z')
tells-determined o was r n t t' z z' e f = (e.0 ∙ sym f.0, e.1 ∙ sym f.1, e.2 ∙ sym f.2)

pub looks-determined : (a : Outcome Said) (was : Told) (r n : ℕ) (t t' : Told) → Looks a was r t → Looks a was n t' → (r ≡ n) × (t ≡ t')
looks-determined a was r n t t' e f = (e.0 ∙ sym f.0, e.1 ∙ sym f.1)

pub shows-determined : (a : Outcome Said) (was : Seat) (r n : ℕ) (s s' : Seat) → Shows a was r s → Shows a was n s' → (r ≡ n) × (s ≡ s')
shows-determined a was r n s s' e f = (e.0 ∙ sym f.0, e.1 ∙ sym f.1)

-- ---- an answer other than 0 leaves all that is lent

-- it is a refusal, or a wait
pub unused : (a : Outcome Said) → (code_of a ≡ 0 → ⊥) → Unused a
unused (refused n p) h = tt
unused (taken wait) h = tt
unused (taken done) h = h refl
unused (taken (used n)) h = h refl
unused (taken (serve n)) h = h refl
unused (taken (dropped n)) h = h refl
unused (taken (seated i)) h = h refl
unused (taken (wrote n)) h = h refl
unused (taken (listed x)) h = h refl
unused (taken (shows s)) h = h refl
unused (taken (holds b)) h = h refl
unused (taken (held_by_of n)) h = h refl
unused (taken (scarce p)) h = h refl
unused (taken (unchoked n)) h = h refl

pub told-kept : (a : Outcome Said) (was : Told) → Unused a → told_of a was ≡ was
told-kept (refused n p) was u = refl
told-kept (taken wait) was u = refl
told-kept (taken done) was u = absurd u
told-kept (taken (used n)) was u = absurd u
told-kept (taken (serve n)) was u = absurd u
told-kept (taken (dropped n)) was u = absurd u
told-kept (taken (seated i)) was u = absurd u
told-kept (taken (wrote n)) was u = absurd u
told-kept (taken (listed x)) was u = absurd u
told-kept (taken (shows s)) was u = absurd u
told-kept (taken (holds b)) was u = absurd u
told-kept (taken (held_by_of n)) was u = absurd u
told-kept (taken (scarce p)) was u = absurd u
told-kept (taken (unchoked n)) was u = absurd u

pub shown-kept : (a : Outcome Said) (was : Seat) → Unused a → shown_of a was ≡ was
shown-kept (refused n p) was u = refl
shown-kept (taken wait) was u = refl
shown-kept (taken done) was u = absurd u
shown-kept (taken (used n)) was u = absurd u
shown-kept (taken (serve n)) was u = absurd u
shown-kept (taken (dropped n)) was u = absurd u
shown-kept (taken (seated i)) was u = absurd u
shown-kept (taken (wrote n)) was u = absurd u
shown-kept (taken (listed x)) was u = absurd u
shown-kept (taken (shows s)) was u = absurd u
shown-kept (taken (holds b)) was u = absurd u
shown-kept (taken (held_by_of n)) was u = absurd u
shown-kept (taken (scarce p)) was u = absurd u
shown-kept (taken (unchoked n)) was u = absurd u

-- r is the number of a
other : (a : Outcome Said) (r : ℕ) → r ≡ code_of a → (r ≡ 0 → ⊥) → Unused a
other a r e h = unused a (λ f. h (e ∙ f))

pub steps-keeps : (c : Call) (y : Yard) (r : ℕ) (z : Yard) → Steps (step c y) r z → (r ≡ 0 → ⊥) → z ≡ y
steps-keeps c y r z e h = e.1 ∙ step_keeps y c (other (step c y).answer r e.0 h)

pub tells-keeps : (c : Call) (y : Yard) (was : Told) (r : ℕ) (t : Told) (z : Yard) → Tells (step c y) was r t z → (r ≡ 0 → ⊥) → (t ≡ was) × (z ≡ y)
tells-keeps c y was r t z e h = (e.1 ∙ told-kept (step c y).answer was u, e.2 ∙ step_keeps y c u)
  where
    u : Unused (step c y).answer
    u = other (step c y).answer r e.0 h

pub looks-keeps : (a : Outcome Said) (was : Told) (r : ℕ) (t : Told) → Looks a was r t → (r ≡ 0 → ⊥) → t ≡ was
looks-keeps a was r t e h = e.1 ∙ told-kept a was (other a r e.0 h)

pub shows-keeps : (a : Outcome Said) (was : Seat) (r : ℕ) (s : Seat) → Shows a was r s → (r ≡ 0 → ⊥) → s ≡ was
shows-keeps a was r s e h = e.1 ∙ shown-kept a was (other a r e.0 h)
