-- `tracker::listed::count` meets its contract. Assumes nothing.
use Rattle.refusal.specs.Paper.{refusal, paper}
use Rattle.tracker.proofs.Steps.{counting-start, counting-close, counting-bad, counting-out, counting_more, listed-further}
use Rattle.bencode_walk.proofs.Limited.{unless-short}
use Rattle.std.proofs.Common.{arith, ◌≡◌, Err, ap, ◌∙◌, rules}
use Rattle.tracker.proofs.listed.count.Goals as goal

pub loop-at-init : goal.loop-at-init
loop-at-init c = counting-start c.args.text.now c.args.first

pub returns-then-text-at-eq101 : goal.returns-then-text-at-eq101
returns-then-text-at-eq101 c = counting-close c.args.text.now c.args.first c.loop-at.at c.loop-at.n c.loop-at.invariant (omega arith) c.if-text-at-eq101.true ∙ unless-short c.args.text.now _ (omega arith)

pub loop-at-smaller : goal.loop-at-smaller
loop-at-smaller c = omega (arith, (listed-further c.args.text.now c.args.first c.loop-at.at c.loop-at.n _ _ c.in_ok-next.ensures).0)

pub loop-at-preserved : goal.loop-at-preserved
loop-at-preserved c = counting_more c.args.text.now c.args.first c.loop-at.at c.loop-at.n c.loop-at.invariant _ _ (omega arith) c.if-text-at-eq101.false c.in_ok-next.ensures

pub returns-in_err-next : goal.returns-in_err-next
returns-in_err-next c =
    let e : c.from_residual.result ≡ Err c.in_err-next.field-0.0 = search rules in
    ap paper e ∙ counting-bad c.args.text.now c.args.first c.loop-at.at c.loop-at.n c.loop-at.invariant _ (omega arith) c.if-text-at-eq101.false c.in_err-next.ensures ∙ unless-short c.args.text.now _ (omega arith)

pub returns : goal.returns
returns c = ap refusal c.refuse-2.ensures ∙ counting-out c.args.text.now c.args.first c.loop-at.at c.loop-at.n c.loop-at.invariant (omega arith) (omega arith) ∙ unless-short c.args.text.now _ (omega arith)
