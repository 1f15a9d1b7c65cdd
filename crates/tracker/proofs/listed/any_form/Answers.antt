-- `tracker::listed::any_form` meets its contract. Assumes nothing.
use Rattle.std.proofs.Common.{◌≡◌, Err, ap, ◌∙◌, rules}
use Rattle.refusal.specs.Paper.{then}
use Rattle.tracker.specs.Entries.{listed_paper, listed_at, peer_by}
use Rattle.tracker.proofs.Steps.{no-id}
use Rattle.tracker.proofs.listed.any_form.Goals as goal

pub returns-in_err-first : goal.returns-in_err-first
unfolding listed_at
returns-in_err-first c = search rules

pub returns-in_err-id : goal.returns-in_err-id
unfolding listed_at
returns-in_err-id c =
    let e : c.from_residual-in_err-id.result ≡ Err c.in_err-id.field-0.0 = search rules in
    ap listed_paper e ∙ no-id c.args.text.now c.args.at c.in_ok-first.first _ _ c.seek-ips.ensures c.seek_after-ids.ensures c.in_err-id.ensures ∙ ap (λ o. then o (peer_by c.args.text.now c.args.at)) c.in_ok-first.ensures

pub returns-in_err-ip : goal.returns-in_err-ip
unfolding listed_at
returns-in_err-ip c = search rules

pub returns-in_err-port : goal.returns-in_err-port
unfolding listed_at
returns-in_err-port c = search rules

pub returns-in_err-next : goal.returns-in_err-next
unfolding listed_at
returns-in_err-next c = search rules

pub returns : goal.returns
unfolding listed_at
returns c = search rules
