-- `bencode::short::digits` meets its contract. Assumes nothing.
use mathlib.Core.Path.{refl, sym, ◌∙◌}
use native.Mathlib.Omega.{arith}
use Rattle.bencode_scalar.proofs.Decimal.{passing-start, passing-more}
use Rattle.bencode.proofs.Leaves.{ended-digits}
use Rattle.bencode.proofs.short.digits.Goals as goal

pub loop-i-preserved : goal.loop-i-preserved
loop-i-preserved c = passing-more _ _ c.loop-i.invariant (omega arith) (sym c.digit.ensures ∙ c.if-not-digit.false)

pub returns-then-not-digit : goal.returns-then-not-digit
returns-then-not-digit c = λ z. ended-digits _ _ _ _ c.loop-i.invariant (omega arith) (sym c.digit.ensures ∙ c.if-not-digit.true) (c.closing.ensures z)

pub loop-i-init : goal.loop-i-init
loop-i-init c = passing-start _ _ c.requires

pub overflow_sub-i : goal.overflow_sub-i
overflow_sub-i c = c.loop-i.invariant.begun

pub returns-then-i-at-ge18 : goal.returns-then-i-at-ge18
returns-then-i-at-ge18 c z = absurd (z refl)

pub returns : goal.returns
returns c z = absurd (z refl)
