-- `bencode::short::negative` meets its contract. Assumes nothing.
use mathlib.Core.Path.{refl, sym, ◌∙◌}
use native.Mathlib.Omega.{arith}
use Rattle.bencode.proofs.Leaves.{minus-past}
use Rattle.bencode.proofs.short.negative.Goals as goal

pub returns-then-digit : goal.returns-then-digit
returns-then-digit c = λ n z. minus-past c.args.text.now c.args.at n _ (omega arith) c.if-b-eq48.false (sym c.digit.ensures ∙ c.if-digit.true) (c.digits.ensures z)

pub returns-then-b-eq48 : goal.returns-then-b-eq48
returns-then-b-eq48 c n z = absurd (z refl)

pub returns : goal.returns
returns c n z = absurd (z refl)
