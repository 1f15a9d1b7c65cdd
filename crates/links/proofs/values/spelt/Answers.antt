-- `links::values::spelt` meets its contract. Assumes nothing.
use mathlib.Core.Path.{sym, ◌∙◌}
use borrow.Author.Tests.{ne_eqb}
use Rattle.links.proofs.Spelling.{counted_none, counted-plain, counted-escape, counted-off, counted-to}
use native.Mathlib.Omega.{arith}
use Rattle.links.proofs.values.spelt.Goals as goal

pub loop-at-init : goal.loop-at-init
loop-at-init c = counted_none c.args.text.now c.args.from (omega arith)

pub loop-at-preserved-then-is_plain : goal.loop-at-preserved-then-is_plain
loop-at-preserved-then-is_plain c = counted-plain c.args.text.now c.args.from c.loop-at.invariant (omega arith) (sym c.is_plain.ensures ∙ c.if-is_plain.true)

pub overflow_sub-result : goal.overflow_sub-result
overflow_sub-result c = omega (arith, c.loop-at.invariant.count)

pub overflow_mul-result : goal.overflow_mul-result
overflow_mul-result c = omega (arith, c.loop-at.invariant.count)

pub overflow_sub-result-then-text-at-ne37 : goal.overflow_sub-result-then-text-at-ne37
overflow_sub-result-then-text-at-ne37 c = omega (arith, c.loop-at.invariant.count)

pub returns-then-text-at-ne37 : goal.returns-then-text-at-ne37
returns-then-text-at-ne37 c = counted-to c.args.text.now c.args.from c.loop-at.invariant (λ h. (sym c.is_plain.ensures ∙ c.if-is_plain.false, ne_eqb _ 37 c.if-text-at-ne37.true))

pub returns-then-count-lt2 : goal.returns-then-count-lt2
returns-then-count-lt2 c = counted-off c.args.text.now c.args.from c.loop-at.invariant (omega arith) c.if-text-at-ne37.false _ c.escape_digits-count.ensures c.if-count-lt2.true

pub overflow_add-at-in-loop-at-2 : goal.overflow_add-at-in-loop-at-2
overflow_add-at-in-loop-at-2 c = omega (arith, (counted-escape c.args.text.now c.args.from c.loop-at.invariant (omega arith) c.if-text-at-ne37.false (omega (arith, c.escape_digits-count.ensures))).spelt.end)

pub overflow_add-escapes : goal.overflow_add-escapes
overflow_add-escapes c = omega (arith, c.loop-at.invariant.count)

pub loop-at-smaller : goal.loop-at-smaller
loop-at-smaller c = omega (arith, (counted-escape c.args.text.now c.args.from c.loop-at.invariant (omega arith) c.if-text-at-ne37.false (omega (arith, c.escape_digits-count.ensures))).spelt.end)

pub loop-at-preserved : goal.loop-at-preserved
loop-at-preserved c = counted-escape c.args.text.now c.args.from c.loop-at.invariant (omega arith) c.if-text-at-ne37.false (omega (arith, c.escape_digits-count.ensures))

pub overflow_sub-result-2 : goal.overflow_sub-result-2
overflow_sub-result-2 c = omega (arith, c.loop-at.invariant.count)

pub overflow_mul-result-2 : goal.overflow_mul-result-2
overflow_mul-result-2 c = omega (arith, c.loop-at.invariant.count)

pub overflow_sub-result-3 : goal.overflow_sub-result-3
overflow_sub-result-3 c = omega (arith, c.loop-at.invariant.count)

pub returns : goal.returns
returns c = counted-to c.args.text.now c.args.from c.loop-at.invariant (λ h. absurd (omega arith))
