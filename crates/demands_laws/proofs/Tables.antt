-- The yard's causes over any view, and its refusals on any tables. Assumes nothing.
use mathlib.Core.Path.{◌≡◌}
use mathlib.Core.Logic.Iff
use mathlib.Core.Logic.{◌↔◌}
use Prim.Native.Nat.{ℕ, ◌≤◌, ◌<◌}
use native.Mathlib.Omega.{arith}
use Rattle.refusal.specs.Paper.{refused}
use Rattle.yard_tables.specs.Tables.{Yard}
use Rattle.yard_tables.specs.Step.{Call, step}
use Rattle.yard_laws.specs.View.{View, by_tables}
use Rattle.yard_laws.specs.Causes.{CauseBy, too_long, wrong-payload, not_first, no-such-have, no-such-block, no-such-has, no-such-count, wrong-length, spare-bit, past-piece, too_much, all-taken, nobody, past-list, past-look, past-has, no_room, unfit}
use Rattle.yard_laws.specs.Damage.{Fit}
use Rattle.yard_laws.proofs.OnTables as tables

-- no number is past 39
pub few : (v : View) (c : Call) (number : ℕ) → CauseBy v c number → number ≤ 39
few v c number (unfit p l k f) = omega arith
few v c number (all-taken f) = omega arith
few v c number (nobody d i o g) = omega arith
few v c number (past-list first space g) = omega arith
few v c number (past-look i g) = omega arith
few v c number (past-has i p g) = omega arith
few v c number (no_room d i space m g l) = omega arith
few v c number (too_long i s g l) = omega arith
few v c number (wrong-payload i s g a f) = omega arith
few v c number (not_first i s b bytes g w f) = omega arith
few v c number (wrong-length i s b bytes g w f l) = omega arith
few v c number (spare-bit i s b bytes p g w f l a m o) = omega arith
few v c number (no-such-have i s p bytes g w l) = omega arith
few v c number (no-such-block i s m p b k bytes g w o l) = omega arith
few v c number (no-such-has i p g l) = omega arith
few v c number (no-such-count p l) = omega arith
few v c number (past-piece i s m p b k bytes g w o l f) = omega arith
few v c number (too_much i s p b block bytes g w l f m) = omega arith

module _ (y : Yard) (c : Call) where
  pub on-tables : (number : ℕ) → number < 38 → (place : ℕ) → (step c y).answer ≡ refused number place ↔ ((Fit y × CauseBy (by_tables y) c number) × (place ≡ 0))
  on-tables number l place = Iff.trans (tables.refused-exactly y c number place (λ e. omega arith) (λ e. omega arith)) (λ (f, k, z). ((f, k), z), λ ((f, k), z). (f, k, z))

  -- the number that C gets for a wait is no refusal's
  pub no-wait : (place : ℕ) → (step c y).answer ≡ refused 255 place → ⊥
  no-wait place e =
      let k = (tables.refused-exactly y c 255 place (λ q. omega arith) (λ q. omega arith)).0 e in
      let l = few (by_tables y) c 255 k.1 in
      omega arith
