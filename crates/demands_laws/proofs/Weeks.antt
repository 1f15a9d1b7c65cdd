-- A package of a week's file is refused as the file is, or by 31. Assumes nothing.
use mathlib.Core.Path.{◌≡◌, refl}
use mathlib.Core.Logic.Iff
use mathlib.Core.Logic.{⊎_elim, ◌⊎◌, ◌↔◌}
use mathlib.Core.List.{List}
use Prim.Native.Nat.{ℕ, ◌≤◌}
use native.Mathlib.Omega.{arith}
use Rattle.refusal.specs.Paper.{refused, taken}
use Rattle.bencode_laws.proofs.Laws.{Numbered}
use Rattle.week.specs.Rules.{week_of, package_of}
use Rattle.week.specs.declared.Week.{Week}
use Rattle.week_laws.specs.Causes.{NoWeek}
use Rattle.week_laws.proofs.Laws.{package-faults, week-faults}
use Rattle.week_laws.proofs.Numbers.{none_other}
use Rattle.demands_laws.proofs.Refusals.{first_of, second-of}

module _ (s : List ℕ) where
  pub package-alike : (i k p : ℕ) → (k ≡ 31 → ⊥) → package_of s i ≡ refused k p ↔ week_of s ≡ refused k p
  package-alike i k p n = Iff.trans (first_of (package-faults s i k p) (λ h. n h.3)) ((week-faults s k p).1, (week-faults s k p).0)

  pub package-31 : (i p : ℕ) → package_of s i ≡ refused 31 p ↔ ((w : Week) × (week_of s ≡ taken w) × (w.count ≤ i) × (p ≡ 0))
  package-31 i p = Iff.trans (second-of (package-faults s i 31 p) never) (λ (w, e, l, a, z). (w, e, l, z), λ (w, e, l, z). (w, e, l, refl, z))
    where
      never : NoWeek s 31 p → ⊥
      never h =
          ⊎_elim (λ (z : Numbered 31). omega (arith, z.1))
          (λ (x : ((10 ≤ 31) × (31 ≤ 13)) ⊎ (◌≡◌ {A = ℕ} 31 18)). ⊎_elim (λ (z : (10 ≤ 31) × (31 ≤ 13)). omega (arith, z.1)) (λ (z : ◌≡◌ {A = ℕ} 31 18). omega (arith, z)) x)
          (none_other s 31 p h)
