-- `week::package` meets its contract. Assumes nothing.
use Rattle.std.specs.Prelude.{◌≡◌, Err}
use Rattle.std.proofs.Common.{ap, ◌∙◌, rules}
use Rattle.refusal.specs.Paper.{paper}
use Rattle.week.proofs.Summing.{package-of}
use Rattle.week.proofs.package.Goals as goal

pub returns : goal.returns
returns c = c.chosen.ensures ∙ package-of c.args.file.now c.args.index c.in_ok-w.ensures.result_value

pub returns-in_err-w : goal.returns-in_err-w
returns-in_err-w c =
    let e : c.from_residual.result ≡ Err c.in_err-w.field-0.0 = search rules in
    ap paper e ∙ package-of c.args.file.now c.args.index c.in_err-w.ensures.result_value
