-- `bencode_scalar::closed` meets its contract. Assumes nothing.
use Rattle.std.proofs.Common.{sym, subst}
use Rattle.bencode_scalar.specs.Steps.{Closes}
use Rattle.bencode_scalar.proofs.Forms.{passed_on, closed-missing, closed-whole}
use Rattle.bencode_scalar.proofs.closed.Goals as goal

pub returns-in_err-expect : goal.returns-in_err-expect
returns-in_err-expect c =
    let a = c.args in
    subst (Closes a.text.now a.b a.at) (sym (passed_on _ _ c.from_residual.ensures.1))
    (λ neg n. closed-missing a.text.now neg a.b a.at n _ c.number_from-run.ensures.1 c.in_err-expect.ensures)

pub returns : goal.returns
returns c =
    let e = c.in_ok-expect.ensures in
    (c.number_from-run.ensures.0, λ neg n. closed-whole c.args.text.now neg c.args.b c.args.at n _ c.number_from-run.ensures.1 e.inside e.here)
