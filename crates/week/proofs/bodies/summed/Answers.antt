-- `week::bodies::summed` meets its contract. Assumes nothing.
use Rattle.std.specs.Prelude.{◌≡◌, Err}
use Rattle.std.proofs.Common.{sym, ap, ◌∙◌, arith, rules}
use Rattle.refusal.specs.Paper.{paper}
use Rattle.refusal.proofs.Outcomes.{not_taken}
use Rattle.week.proofs.Summing.{table-most, week-by}
use Rattle.week.proofs.bodies.summed.Goals as goal

pub each-requires : goal.each-requires
each-requires c = (table-most c.args.file.now _ (sym c.in_ok-n.ensures), omega arith)

pub returns : goal.returns
returns c = record { result_value = c.each.ensures.result_value ∙ week-by c.args.file.now c.in_ok-n.ensures; kept = λ w h. let k = c.each.ensures.kept w h in (omega (arith, k.0, table-most c.args.file.now _ (sym c.in_ok-n.ensures)), k.1, λ j b. k.2 j (omega (arith, k.0))) }

pub returns-in_err-n : goal.returns-in_err-n
returns-in_err-n c =
    let e : c.from_residual.result ≡ Err c.in_err-n.field-0.0 = search rules in
    record { result_value = ap paper e ∙ week-by c.args.file.now c.in_err-n.ensures; kept = λ w h. not_taken (ap paper (sym e) ∙ h) }
