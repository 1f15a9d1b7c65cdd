-- `bencode::short::integer` meets its contract. Assumes nothing.
use mathlib.Core.Path.{refl, sym, ◌∙◌}
use native.Mathlib.Omega.{arith}
use Rattle.bencode.proofs.Leaves.{below-past, zero-past, plus-past}
use Rattle.bencode.proofs.short.integer.Goals as goal

pub returns-then-first-eq45 : goal.returns-then-first-eq45
returns-then-first-eq45 c = λ n z. below-past c.args.text.now c.args.at n _ (omega arith) c.requires.1 c.if-first-eq45.true (c.negative.ensures n z)

pub returns-then-first-eq48 : goal.returns-then-first-eq48
returns-then-first-eq48 c = λ n z. zero-past c.args.text.now c.args.at n _ (omega arith) c.requires.1 c.if-first-eq48.true (c.closing.ensures z)

pub returns-then-digit : goal.returns-then-digit
returns-then-digit c = λ n z. plus-past c.args.text.now c.args.at n _ (omega arith) c.requires.1 c.if-first-eq48.false (sym c.digit.ensures ∙ c.if-digit.true) (c.digits.ensures z)

pub returns-then-text-at-lt3 : goal.returns-then-text-at-lt3
returns-then-text-at-lt3 c n z = absurd (z refl)

pub returns : goal.returns
returns c n z = absurd (z refl)
