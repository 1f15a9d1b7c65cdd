-- Why a page of the missing list is refused, and why a round is, case by case. Assumes nothing.
use Rattle.std.specs.Prelude.{Some, None}
use mathlib.Core.Path.{◌≡◌, refl, sym, ◌∙◌}
use mathlib.Core.Bool.{Bool, true, false, cond}
use Prim.Native.Nat.{ℕ, ◌<◌, ◌≤◌}
use borrow.Author.Tests.{le-leb, lt-leb}
use lib.Dec.{leb}
use Rattle.refusal.specs.Numbers.{seat, sizes, damaged}
use Rattle.refusal.proofs.Cases.{pick_yes, pick_no}
use Rattle.yard_tables.specs.Rounds.{misplaced}
use Rattle.yard_tables.specs.Tables.{sizes_fit}
use Rattle.yard_tables.specs.declared.Head.{Head}
use Rattle.yard.specs.Pages.{page_fault}
use Rattle.yard.specs.Rounds.{round_fault}

module _ (h : Head) (n rows holders first : ℕ) (b : Bool) (e : b ≡ sizes_fit h n rows holders) where
  pub fault-sizes : b ≡ false → Some sizes ≡ page_fault h n rows holders first
  fault-sizes f = pick_no (cond (leb first n) None (Some seat)) (sizes_fit h n rows holders) (sym e ∙ f) refl

  pub fault-seat : b ≡ true → n < first → Some seat ≡ page_fault h n rows holders first
  fault-seat f l = pick_yes (Some sizes) (sizes_fit h n rows holders) (sym e ∙ f) (pick_no None (leb first n) (lt-leb first n l) refl)

  pub fault-none : b ≡ true → first ≤ n → None ≡ page_fault h n rows holders first
  fault-none f l = pick_yes (Some sizes) (sizes_fit h n rows holders) (sym e ∙ f) (pick_yes (Some seat) (leb first n) (le-leb first n l) refl)

module _ (h : Head) (n rows holders : ℕ) (b : Bool) (e : b ≡ sizes_fit h n rows holders) where
  pub round-sizes : b ≡ false → Some sizes ≡ round_fault h n rows holders
  round-sizes f = pick_no (cond (misplaced h n) (Some damaged) None) (sizes_fit h n rows holders) (sym e ∙ f) refl

  module _ (m : Bool) (g : m ≡ misplaced h n) (f : b ≡ true) where
    pub round-damaged : m ≡ true → Some damaged ≡ round_fault h n rows holders
    round-damaged d = pick_yes (Some sizes) (sizes_fit h n rows holders) (sym e ∙ f) (pick_yes None (misplaced h n) (sym g ∙ d) refl)

    pub round-none : m ≡ false → None ≡ round_fault h n rows holders
    round-none d = pick_yes (Some sizes) (sizes_fit h n rows holders) (sym e ∙ f) (pick_no (Some damaged) (misplaced h n) (sym g ∙ d) refl)
