-- A refusal of one outcome told as that of another, both ways at once. Assumes nothing.
use mathlib.Core.Path.{◌≡◌, refl, sym, ap, subst, ◌∙◌}
use mathlib.Core.Logic.{◌⊎◌, inl, inr, ⊎_elim, ◌↔◌}
use mathlib.Core.List.{List}
use Prim.Native.Nat.{ℕ}
use Rattle.refusal.specs.Paper.{Outcome, taken, refused, map, then, Left, left}
use Rattle.refusal.proofs.Outcomes as outcomes

-- one of two reasons, where the other cannot be
pub first_of : {X A B : Type 0} → X ↔ (A ⊎ B) → (B → ⊥) → X ↔ A
first_of {X} {A} {B} f g = (λ x. ⊎_elim (λ (a : A). a) (λ (b : B). absurd (g b)) (f.0 x), λ a. f.1 (inl a))

pub second-of : {X A B : Type 0} → X ↔ (A ⊎ B) → (A → ⊥) → X ↔ B
second-of {X} {A} {B} f g = (λ x. ⊎_elim (λ (a : A). absurd (g a)) (λ (b : B). b) (f.0 x), λ b. f.1 (inr b))

-- a number that is what it is
pub given : {A B C : Type 0} {n : ℕ} → A ↔ ((n ≡ n) × B × C) → A ↔ (B × C)
given f = (λ a. let x = f.0 a in (x.1, x.2), λ (b, c). f.1 (refl, b, c))

-- what a contract says an answer is, in its place
pub same_answer : {A : Type 0} {r o x : A} → r ≡ o → r ≡ x ↔ o ≡ x
same_answer c = (λ e. sym c ∙ e, λ e. c ∙ e)

-- and of a call that leaves something beside it
pub left-answer : {A : Type 0} {r x : Outcome A} {out : List ℕ} {l : Left A} → left r out ≡ l → r ≡ x ↔ l.answer ≡ x
left-answer {A} c = same_answer (ap (λ (y : Left A). y.answer) c)

pub some-answer : {A : Type 0} {r o : Outcome A} → r ≡ o → ((x : A) × (r ≡ taken x)) ↔ ((x : A) × (o ≡ taken x))
some-answer c = (λ (x, e). (x, sym c ∙ e), λ (x, e). (x, c ∙ e))

pub refusal_is : {A : Type 0} {m q n p : ℕ} → m ≡ n → q ≡ p → ◌≡◌ {A = Outcome A} (refused m q) (refused n p)
refusal_is a b = rw (a, b)

-- the same refusal at place 0
pub at_place : {A : Type 0} {n p : ℕ} → p ≡ 0 → ◌≡◌ {A = Outcome A} (refused n 0) (refused n p)
at_place e = refusal_is refl (sym e)

-- a cause of a number, at place 0: the number is its own, and exactly then it is given
pub caused : {A : Type 0} {o : Outcome A} (C : ℕ → Type 0) {j k p : ℕ} → o ≡ refused j 0 → C j → o ≡ refused k p → C k × (p ≡ 0)
caused C d c e = let z = outcomes.same-refusal (sym d ∙ e) in (subst C z.0 c, sym z.1)

pub at_zero : {A B : Type 0} {o : Outcome A} {k p : ℕ} → (o ≡ refused k p → B × (p ≡ 0)) → (B → o ≡ refused k 0) → o ≡ refused k p ↔ (B × (p ≡ 0))
at_zero f g = (f, λ (b, z). g b ∙ at_place z)

-- what is taken, seen otherwise: a refusal stays
pub map-refused : {A B : Type 0} (f : A → B) (o : Outcome A) (n p : ℕ) → map f o ≡ refused n p ↔ o ≡ refused n p
map-refused f o n p = (outcomes.map-refused f o n p, λ e. ap (map f) e)

-- one check and then another: the first refuses, or the second does of what the first took
pub then-refused : {A B : Type 0} (o : Outcome A) (f : A → Outcome B) (n p : ℕ) → then o f ≡ refused n p ↔ ((o ≡ refused n p) ⊎ ((x : A) × (o ≡ taken x) × (f x ≡ refused n p)))
then-refused {A} o f n p = (
  outcomes.then-refused o f n p,
  ⊎_elim (λ (h : o ≡ refused n p). ap (λ (x : Outcome A). then x f) h) (λ (h : (x : A) × (o ≡ taken x) × (f x ≡ refused n p)). ap (λ (x : Outcome A). then x f) h.1 ∙ h.2),
)

-- a part of the text is the same part if it holds the same and lies at the same place
pub one-part : {A R : Type 0} (make : ℕ → ℕ → A → R) {a b c d : ℕ} {x y : A} → (x ≡ y) × (a ≡ b) × (c ≡ d) → make a c x ≡ make b d y
one-part make {a} {b} {c} {d} {x} {y} (e, f, g) = ap (make a c) e ∙ ap (λ (n : ℕ). make n c y) f ∙ ap (λ (n : ℕ). make b n y) g
