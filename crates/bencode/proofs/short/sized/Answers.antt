-- `bencode::short::sized` meets its contract. Assumes nothing.
use mathlib.Core.Path.{refl, sym, ◌∙◌}
use native.Mathlib.Omega.{arith}
use Rattle.bencode_scalar.proofs.Decimal.{reading-start, reading-more}
use Rattle.bencode.proofs.Leaves.{held-digits}
use Rattle.bencode.proofs.short.sized.Goals as goal

pub loop-i-init : goal.loop-i-init
loop-i-init c = reading-start _ _ _ c.requires.0 c.requires.1

pub units-requires : goal.units-requires
units-requires c = sym c.digit.ensures ∙ c.if-not-digit.false

pub overflow_add-size : goal.overflow_add-size
overflow_add-size c = omega (arith, c.units.ensures.0, c.units.ensures.1)

pub loop-i-preserved : goal.loop-i-preserved
loop-i-preserved c = reading-more _ _ _ c.loop-i.invariant (omega arith) (sym c.digit.ensures ∙ c.if-not-digit.false) (omega arith) (omega (arith, c.units.ensures.0))

pub returns-then-not-digit : goal.returns-then-not-digit
returns-then-not-digit c = λ z. held-digits _ _ _ _ _ _ (omega arith) c.loop-i.invariant (omega arith) (sym c.digit.ensures ∙ c.if-not-digit.true) (c.held.ensures z)

pub returns-then-size-ge1000000000000000000 : goal.returns-then-size-ge1000000000000000000
returns-then-size-ge1000000000000000000 c z = absurd (z refl)

pub returns : goal.returns
returns c z = absurd (z refl)
