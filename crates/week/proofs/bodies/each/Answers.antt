-- `week::bodies::each` meets its contract. The loop's invariant: the sums from here on are those of the whole. Assumes nothing.
use Rattle.std.specs.Prelude.{◌≡◌, Err}
use Rattle.std.proofs.Common.{sym, ap, ◌∙◌, arith, rules}
use Rattle.refusal.specs.Paper.{paper}
use Rattle.refusal.proofs.Outcomes.{not_taken}
use Rattle.week.proofs.Summing.{package-small, sums-more, sums_by, sums-end, sums_kept}
use Rattle.week.proofs.bodies.each.Goals as goal

pub overflow_add-files : goal.overflow_add-files
overflow_add-files c = omega (arith, c.loop-i.invariant.few, (package-small c.args.file.now c.loop-i.i _ (sym c.in_ok-e.ensures)).0)

pub overflow_add-total : goal.overflow_add-total
overflow_add-total c = omega (arith, c.loop-i.invariant.small, (package-small c.args.file.now c.loop-i.i _ (sym c.in_ok-e.ensures)).1)

pub loop-i-preserved : goal.loop-i-preserved
loop-i-preserved c = sums-more _ _ _ _ _ _ _ c.loop-i.invariant _ c.in_ok-e.ensures (omega arith) (omega arith)

pub returns-in_err-e : goal.returns-in_err-e
returns-in_err-e c =
    let e : c.from_residual.result ≡ Err c.in_err-e.field-0.0 = search rules in
    record { result_value = ap paper e ∙ sums_by _ _ _ _ _ _ _ c.loop-i.invariant (omega arith) c.in_err-e.ensures; kept = λ w h. not_taken (ap paper (sym e) ∙ h) }

pub returns : goal.returns
returns c = record { result_value = ap paper c.weekly.ensures ∙ sums-end _ _ _ _ _ _ _ c.loop-i.invariant (omega arith); kept = sums_kept _ _ _ _ _ _ _ c.loop-i.invariant (omega arith) (omega arith) _ c.weekly.ensures }
