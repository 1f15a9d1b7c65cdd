-- `week::package_at` meets its contract. Assumes nothing.
use Rattle.std.specs.Prelude.{◌≡◌, Err}
use Rattle.std.proofs.Common.{sym, ap, ◌∙◌, arith, rules}
use Rattle.refusal.specs.Paper.{refusal, paper}
use Rattle.week.proofs.Tabling.{count_most}
use Rattle.week.proofs.Summing.{package-long, package-by}
use Rattle.week.proofs.package_at.Goals as goal

pub returns-then-file-gt-TEXT : goal.returns-then-file-gt-TEXT
returns-then-file-gt-TEXT c = ap refusal c.refuse.ensures ∙ package-long c.args.file.now c.args.index (omega arith)

pub within-requires : goal.within-requires
within-requires c = (count_most c.args.file.now (sym c.in_ok-n.ensures), omega arith)

pub returns : goal.returns
returns c = c.within.ensures ∙ package-by c.args.file.now c.args.index (omega arith) c.in_ok-n.ensures

pub returns-in_err-n : goal.returns-in_err-n
returns-in_err-n c =
    let e : c.from_residual.result ≡ Err c.in_err-n.field-0.0 = search rules in
    ap paper e ∙ package-by c.args.file.now c.args.index (omega arith) c.in_err-n.ensures
