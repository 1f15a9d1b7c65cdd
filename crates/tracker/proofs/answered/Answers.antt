-- `tracker::answered` meets its contract. Assumes nothing.
use Rattle.std.proofs.Common.{◌≡◌, Err, ap, ◌∙◌, rules}
use Rattle.tracker.specs.Reading.{reply_paper}
use Rattle.tracker.proofs.Steps.{no-interval}
use Rattle.tracker.proofs.answered.Goals as goal

pub returns-in_err-interval : goal.returns-in_err-interval
returns-in_err-interval c =
    let e : c.from_residual.result ≡ Err c.in_err-interval.field-0.0 = search rules in
    ap reply_paper e ∙ no-interval c.args.text.now c.args.at _ c.seek-intervals.ensures c.in_err-interval.ensures
