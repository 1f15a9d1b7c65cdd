-- What the number that C gets tells of a call's answer. Assumes nothing.
use mathlib.Core.Path.{◌≡◌, refl, sym, ap, ◌∙◌}
use mathlib.Core.Bool.{Bool, true, false, cond}
use Prim.Native.Nat.{ℕ, ◌≤◌, ◌<◌}
use native.Mathlib.Omega.{arith}
use lib.Dec.{leb}
use Rattle.refusal.specs.Paper.{Outcome, taken, refused}
use Rattle.yard_tables.specs.Tables.{Said, wait, done, used, serve, dropped, seated, wrote, listed, shows, holds, held_by_of, scarce, unchoked}
use Rattle.yard_tables.specs.Step.{missing}
use Rattle.yard_tables.specs.declared.Page.{Page}
use Rattle.yard_laws.specs.History.{History, Fixed}
use Rattle.yard_laws.specs.Expected.{page_from, answer}
use mathlib.Core.Logic.Iff
use mathlib.Core.Logic.{◌⊎◌, inl, inr, ◌↔◌}
use Rattle.yard_telling.specs.Telling.{code_of_said, code_of, told_of, Looks}
use Rattle.yard_telling.specs.declared.Told.{Told}

-- what is taken and does not wait has the number 0
zero : (s : Said) → (code_of_said s ≡ 0) ⊎ (s ≡ wait)
zero wait = inr refl
zero done = inl refl
zero (used n) = inl refl
zero (serve n) = inl refl
zero (dropped n) = inl refl
zero (seated i) = inl refl
zero (wrote n) = inl refl
zero (listed x) = inl refl
zero (shows s) = inl refl
zero (holds b) = inl refl
zero (held_by_of n) = inl refl
zero (scarce p) = inl refl
zero (unchoked n) = inl refl

-- a number that is neither 0 nor 255 is a refusal's
refuses : (a : Outcome Said) (n : ℕ) → (n ≡ 0 → ⊥) → (n ≡ 255 → ⊥) → code_of a ≡ n → (p : ℕ) × (a ≡ refused n p)
refuses (refused m p) n z w e = (p, ap (λ (k : ℕ). refused k p) e)
refuses (taken s) n z w e = elim (zero s) [ inl f ↦ absurd (z (sym e ∙ f)) | inr f ↦ absurd (w (sym e ∙ ap code_of_said f)) ]

-- 255 is a wait's, if no refusal has it
waits : (a : Outcome Said) → ((p : ℕ) → a ≡ refused 255 p → ⊥) → code_of a ≡ 255 → a ≡ taken wait
waits (refused m p) f e = absurd (f p (ap (λ (k : ℕ). refused k p) e))
waits (taken s) f e = elim (zero s) [ inl z ↦ absurd (let g = sym z ∙ e in omega (arith, g)) | inr w ↦ ap (λ (x : Said). taken x) w ]

-- so a number that C gets tells the answer
module _ {a : Outcome Said} {r : ℕ} (e : r ≡ code_of a) where
  pub number-refuses : (number : ℕ) → (number ≡ 0 → ⊥) → (number ≡ 255 → ⊥) → r ≡ number ↔ ((place : ℕ) × (a ≡ refused number place))
  number-refuses number z w = (λ q. refuses a number z w (sym e ∙ q), λ (p, d). e ∙ ap code_of d)

  pub number-waits : ((place : ℕ) → a ≡ refused 255 place → ⊥) → r ≡ 255 ↔ a ≡ taken wait
  number-waits f = (λ q. waits a f (sym e ∙ q), λ d. e ∙ ap code_of d)

-- a refusal is at place 0
pub at-any-place : {A : ℕ → Type 0} {B : Type 0} → ((place : ℕ) → A place ↔ (B × (place ≡ 0))) → ((place : ℕ) × A place) ↔ B
at-any-place f = (λ (p, a). ((f p).0 a).0, λ b. (0, (f 0).1 (b, refl)))

-- so a number is given exactly for the cause of its refusal
module _ {a : Outcome Said} {r : ℕ} (e : r ≡ code_of a) (number : ℕ) (some : 1 ≤ number) (few : number < 255) where
  refuses-by : r ≡ number ↔ ((place : ℕ) × (a ≡ refused number place))
  refuses-by = number-refuses e number (λ z. omega arith) (λ w. omega arith)

  pub number-given : {B : Type 0} → ((place : ℕ) → a ≡ refused number place ↔ (B × (place ≡ 0))) → r ≡ number ↔ B
  number-given f = Iff.trans refuses-by (at-any-place f)

  pub number-never : ((place : ℕ) → a ≡ refused number place → ⊥) → r ≡ number → ⊥
  number-never f q = let x = refuses-by.0 q in f x.0 x.1

-- a page whose number is 0 is there
page-there : (fixed : Fixed) (h : History) (first space : ℕ) → code_of (answer fixed h (missing first space)) ≡ 0 → (x : Page) × (answer fixed h (missing first space) ≡ taken (listed x))
page-there fixed h first space e = go (leb first fixed.seats) e
  where
    go : (b : Bool) → code_of (cond b (taken (listed (page_from fixed h first space))) (refused 36 0)) ≡ 0 → (x : Page) × (cond b (taken (listed (page_from fixed h first space))) (refused 36 0) ≡ taken (listed x))
    go true q = (page_from fixed h first space, refl)
    go false q = absurd (omega (arith, q))

-- and its record has its total
pub page-told : (fixed : Fixed) (h : History) (first space : ℕ) {a : Outcome Said} → a ≡ answer fixed h (missing first space) → (was t : Told) → Looks a was 0 t
    → (x : Page) × (a ≡ taken (listed x)) × (t.total ≡ x.total)
page-told fixed h first space {a} d was t e =
    let x = page-there fixed h first space (sym (e.0 ∙ ap code_of d)) in
    let q = d ∙ x.1 in
    (x.0, q, ap (λ (u : Told). u.total) (e.1 ∙ ap (λ (o : Outcome Said). told_of o was) q))
