-- `bencode::short::one_digit` meets its contract. Assumes nothing.
use mathlib.Core.Path.{sym, ◌∙◌}
use native.Mathlib.Omega.{arith}
use Rattle.bencode.proofs.Leaves.{one-whole}
use Rattle.bencode.proofs.short.one_digit.Goals as goal

pub units-requires : goal.units-requires
units-requires c = sym c.digit.ensures ∙ c.if-digit.true

pub returns-then-digit : goal.returns-then-digit
returns-then-digit c = λ n k. one-whole c.args.text.now c.args.at n _ (omega arith) (sym c.digit.ensures ∙ c.if-digit.true) (omega arith) c.if-text-at-eq58.true _ c.units.ensures.0 c.within.ensures k

pub returns-then-text-at-lt2 : goal.returns-then-text-at-lt2
returns-then-text-at-lt2 c n k = absurd (omega arith)

pub returns-else-digit : goal.returns-else-digit
returns-else-digit c n k = absurd (omega arith)

pub returns-else-text-at-eq58 : goal.returns-else-text-at-eq58
returns-else-text-at-eq58 c n k = absurd (omega arith)
