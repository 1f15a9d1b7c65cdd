-- `week::bodies::hashed` meets its contract. Assumes nothing.
use Rattle.std.specs.Prelude.{◌≡◌, Err}
use Rattle.std.proofs.Common.{sym, ap, ◌∙◌, rules}
use Rattle.refusal.specs.Paper.{refusal, paper, taken}
use Rattle.week.proofs.Summing.{hashed-by}
use Rattle.week.proofs.bodies.hashed.Goals as goal

pub returns-then-branch : goal.returns-then-branch
returns-then-branch c = ap paper c.told.ensures ∙ hashed-by c.args.text.now c.args.hash.now c.args.t c.args.i c.args.from c.requires.1 c.bytes.ensures.same (ap taken (sym c.if-branch.true) ∙ c.in_ok-agrees.ensures)

pub returns : goal.returns
returns c = ap refusal c.refuse.ensures ∙ hashed-by c.args.text.now c.args.hash.now c.args.t c.args.i c.args.from c.requires.1 c.bytes.ensures.same (ap taken (sym c.if-branch.false) ∙ c.in_ok-agrees.ensures)

pub returns-in_err-agrees : goal.returns-in_err-agrees
returns-in_err-agrees c =
    let e : c.from_residual.result ≡ Err c.in_err-agrees.field-0.0 = search rules in
    ap paper e ∙ hashed-by c.args.text.now c.args.hash.now c.args.t c.args.i c.args.from c.requires.1 c.bytes.ensures.same c.in_err-agrees.ensures
