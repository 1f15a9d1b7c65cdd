-- `bencode::short::two_digits` meets its contract. Assumes nothing.
use mathlib.Core.Path.{sym, ◌∙◌}
use native.Mathlib.Omega.{arith}
use Rattle.bencode.proofs.Leaves.{two-whole}
use Rattle.bencode.proofs.short.two_digits.Goals as goal

pub tens-requires : goal.tens-requires
tens-requires c = (sym c.digit.ensures ∙ c.if-digit.true, sym c.digit-then-a-ne48.ensures ∙ c.if-digit-2.true)

pub returns-then-digit-2 : goal.returns-then-digit-2
returns-then-digit-2 c = λ n k. two-whole c.args.text.now c.args.at n _ (omega arith) (sym c.digit.ensures ∙ c.if-digit.true) (omega arith) c.if-a-ne48.true (sym c.digit-then-a-ne48.ensures ∙ c.if-digit-2.true) c.if-text-at-eq58.true _ c.tens.ensures c.within.ensures k

pub returns-then-text-at-lt3 : goal.returns-then-text-at-lt3
returns-then-text-at-lt3 c n k = absurd (omega arith)

pub returns-else-digit-2 : goal.returns-else-digit-2
returns-else-digit-2 c n k = absurd (omega arith)

pub returns-else-a-ne48 : goal.returns-else-a-ne48
returns-else-a-ne48 c n k = absurd (omega arith)

pub returns-else-digit : goal.returns-else-digit
returns-else-digit c n k = absurd (omega arith)

pub returns-else-text-at-eq58 : goal.returns-else-text-at-eq58
returns-else-text-at-eq58 c n k = absurd (omega arith)
