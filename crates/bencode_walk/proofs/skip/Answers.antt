-- `bencode_walk::skip` meets its contract. Assumes nothing.
use Rattle.std.specs.Prelude.{◌≡◌, Err}
use Rattle.std.proofs.Common.{ap, ◌∙◌, arith, rules}
use Rattle.refusal.specs.Paper.{paper, refusal}
use Rattle.bencode_walk.proofs.Seeing.{by_step}
use Rattle.bencode_walk.proofs.Standing.{skip-long, value-skipped}
use Rattle.bencode_walk.proofs.skip.Goals as goal

pub returns-then-text-gt-TEXT : goal.returns-then-text-gt-TEXT
returns-then-text-gt-TEXT c = ap refusal c.refuse.ensures ∙ skip-long c.args.text.now c.args.at c.if-text-gt-TEXT.true

pub returns-in_err-c : goal.returns-in_err-c
returns-in_err-c c =
    let e : c.from_residual.result ≡ Err c.in_err-c.field-0.0 = search rules in
    ap paper e ∙ ap by_step c.in_err-c.ensures ∙ value-skipped c.args.text.now c.args.at (omega arith)

pub returns : goal.returns
returns c = ap by_step c.in_ok-c.ensures ∙ value-skipped c.args.text.now c.args.at (omega arith)
