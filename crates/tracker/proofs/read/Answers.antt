-- `tracker::read` meets its contract. Assumes nothing.
use Rattle.std.proofs.Common.{◌≡◌, Err, ap, ◌∙◌, rules}
use Rattle.tracker.specs.Reading.{reply_paper}
use Rattle.tracker.proofs.Agreeing.{read_whole, read-refused}
use Rattle.tracker.proofs.read.Goals as goal

pub returns-in_err-check : goal.returns-in_err-check
returns-in_err-check c =
    let e : c.from_residual.result ≡ Err c.in_err-check.field-0.0 = search rules in
    ap reply_paper e ∙ read-refused c.args.text.now _ c.in_err-check.ensures.meets

pub returns : goal.returns
returns c = c.whole.ensures ∙ read_whole c.args.text.now _ c.in_ok-check.ensures.meets
