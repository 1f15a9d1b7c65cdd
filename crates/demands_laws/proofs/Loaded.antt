-- When no truck lacks a piece, said of any seats and pieces. Assumes nothing.
use mathlib.Core.Path.{◌≡◌, ap}
use mathlib.Core.Logic.{◌↔◌}
use mathlib.Core.Bool.{Bool, true, not, ◌&&◌}
use Prim.Native.Nat.{ℕ, ◌<◌}
use native.Mathlib.Omega.{arith}
use Rattle.refusal.proofs.Cases.{by_bool, cannot, both_true, false-if, and-not}
use Rattle.yard_tables.specs.Counting.{bit, count, some}
use Rattle.yard_tables.proofs.Counts.{count-has, count_none, some_one, some-every}

-- n seats, of which s has a truck, and m pieces, of which seat i's truck has those that a says
module _ (n m : ℕ) (s : ℕ → Bool) (a : ℕ → ℕ → Bool) where
  abbrev lacks : ℕ → Bool
  lacks i = s i && some m (λ p. not (a i p))

  has_all : count n lacks ≡ 0 → (i p : ℕ) → i < n → s i ≡ true → p < m → a i p ≡ true
  has_all none i p l t k = by_bool (some m (λ p. not (a i p)))
      (λ e. let one : bit (lacks i) ≡ 1 = ap bit (both_true (s i) _ t e) in absurd (omega (arith, count-has lacks n i l)))
      (λ e. by_bool (a i p) (λ x. x) (λ x. cannot _ (some-every (λ p. not (a i p)) m e p k) (ap not x)))

  none-lacks : ((i p : ℕ) → i < n → s i ≡ true → p < m → a i p ≡ true) → count n lacks ≡ 0
  none-lacks all = count_none lacks n (λ i l. and-not (s i) _ (λ t. false-if (some m (λ p. not (a i p))) (λ e.
      let (p, k, x) = some_one (λ p. not (a i p)) m e in
      cannot _ (ap not (all i p l t k)) x)))

  pub nobody-lacks : count n lacks ≡ 0 ↔ ((i p : ℕ) → i < n → s i ≡ true → p < m → a i p ≡ true)
  nobody-lacks = (has_all, none-lacks)
