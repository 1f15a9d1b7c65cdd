-- `tracker::listed::nth` meets its contract. Assumes nothing.
use Rattle.std.proofs.Common.{◌≡◌, ◌-◌, ◌+◌, Err, ap, ◌∙◌, arith, rules}
use Rattle.tracker.specs.Entries.{listed_paper, nth_at}
use Rattle.tracker.proofs.Steps.{nth-more, nth-bad, nth_here}
use Rattle.tracker.proofs.listed.nth.Goals as goal

pub returns-in_err-at : goal.returns-in_err-at
returns-in_err-at c =
    let e : c.from_residual.result ≡ Err c.in_err-at.field-0.0 = search rules in
    ap listed_paper e ∙ nth-bad c.args.text.now c.loop.at (c.args.n - c.loop.counter) _ (omega arith) c.in_err-at.ensures ∙ c.loop.invariant

pub loop-preserved : goal.loop-preserved
loop-preserved c =
    let e : c.args.n - (c.loop.counter + 1) ≡ c.args.n - c.loop.counter - 1 = omega arith in
    ap (λ m. nth_at m c.args.text.now c.in_ok-at.at) e ∙ nth-more c.args.text.now c.loop.at (c.args.n - c.loop.counter) _ (omega arith) c.in_ok-at.ensures ∙ c.loop.invariant

pub returns : goal.returns
returns c = c.listed_at.ensures ∙ nth_here c.args.text.now c.loop.at (c.args.n - c.loop.counter) (omega arith) ∙ c.loop.invariant
