-- The counts that a leaving truck lowers, and the free place that it gives up, by the tests that the code makes. Assumes nothing.
use mathlib.Core.Path.{◌≡◌, sym, ap, ap₂}
use mathlib.Core.Bool.{Bool, true, ◌&&◌, ◌||◌}
use borrow.Author.Tests.{eq-eqb, ne_eqb}
use lib.Dec.{eqb}
use Rattle.yard_tables.specs.Replies.{head_at_zero}
use Rattle.yard_tables.specs.declared.Head.{Head}
use Rattle.yard_tables.specs.declared.Seat.{Seat}

module _ (h : Head) (s : Seat) where
  pub zero-taken : h.taken ≡ 0 → true ≡ head_at_zero h s
  zero-taken e = sym (ap (λ (b : Bool). b || (eqb s.held h.pieces && eqb h.complete 0)) (eq-eqb h.taken 0 e))

  past : (b : Bool) → (h.taken ≡ 0 → ⊥) → eqb s.held h.pieces ≡ b → head_at_zero h s ≡ (b && eqb h.complete 0)
  past b n e = ap₂ (λ (x y : Bool). x || (y && eqb h.complete 0)) (ne_eqb h.taken 0 n) e

  pub zero-complete : (h.taken ≡ 0 → ⊥) → s.held ≡ h.pieces → eqb h.complete 0 ≡ head_at_zero h s
  zero-complete n e = sym (past true n (eq-eqb s.held h.pieces e))
