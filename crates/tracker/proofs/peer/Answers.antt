-- `tracker::peer` meets its contract. Assumes nothing.
use Rattle.std.proofs.Common.{◌≡◌, ◌+◌, ◌*◌, Ok, Err, ap, ◌∙◌, rules}
use Rattle.refusal.specs.Paper.{refusal, map}
use Rattle.tracker.specs.Entries.{packed_at, nth_at}
use Rattle.tracker.specs.Reading.{peer_paper}
use Rattle.tracker.proofs.Steps.{in_count, no-count, no-entry}
use Rattle.tracker.proofs.Walking.{peer-by}
use Rattle.tracker.proofs.peer.Goals as goal
use Rattle.tracker.proofs.peer.Goals.{in_default-via-in-Compact+else-n-p, in_default-via-in-List+else-n-p-2, in_default-via-in_default}

pub returns-in_err-entry-in-Compact : goal.returns-in_err-entry-in-Compact
returns-in_err-entry-in-Compact c =
    let e : c.from_residual-in_err-entry-in-Compact.result ≡ Err c.in_err-entry-in-Compact.field-0.0 = search rules in
    ap peer_paper e ∙ ap (map (λ x. x.entry)) c.in_err-entry-in-Compact.ensures ∙ in_count (map (λ x. x.entry) (packed_at c.args.text.now (c.in-Compact.p.first + c.args.n * 6))) c.in-Compact.p.count c.args.n c.if-n-p.true
    ∙ peer-by c.args.text.now c.args.n c.read.ensures (c.in_ok-p.was ∙ ap Ok c.in-Compact.is)

pub returns-in_ok-entry-in-Compact : goal.returns-in_ok-entry-in-Compact
returns-in_ok-entry-in-Compact c =
    ap (map (λ x. x.entry)) c.in_ok-entry-in-Compact.ensures ∙ in_count (map (λ x. x.entry) (packed_at c.args.text.now (c.in-Compact.p.first + c.args.n * 6))) c.in-Compact.p.count c.args.n c.if-n-p.true
    ∙ peer-by c.args.text.now c.args.n c.read.ensures (c.in_ok-p.was ∙ ap Ok c.in-Compact.is)

pub returns-in_err-entry-in-List : goal.returns-in_err-entry-in-List
returns-in_err-entry-in-List c =
    let e : c.from_residual-in_err-entry-in-List.result ≡ Err c.in_err-entry-in-List.field-0.0 = search rules in
    ap peer_paper e ∙ ap (map (λ x. x.entry)) c.in_err-entry-in-List.ensures ∙ in_count (map (λ x. x.entry) (nth_at c.args.n c.args.text.now c.in-List.p.first)) c.in-List.p.count c.args.n c.if-n-p-2.true
    ∙ peer-by c.args.text.now c.args.n c.read.ensures (c.in_ok-p.was ∙ ap Ok c.in-List.is)

pub returns-in_ok-entry-in-List : goal.returns-in_ok-entry-in-List
returns-in_ok-entry-in-List c =
    ap (map (λ x. x.entry)) c.in_ok-entry-in-List.ensures ∙ in_count (map (λ x. x.entry) (nth_at c.args.n c.args.text.now c.in-List.p.first)) c.in-List.p.count c.args.n c.if-n-p-2.true
    ∙ peer-by c.args.text.now c.args.n c.read.ensures (c.in_ok-p.was ∙ ap Ok c.in-List.is)

pub returns-in_default : goal.returns-in_default
returns-in_default c =
    ap refusal c.refuse.ensures
    ∙ elim c.in_default.branch [
      | in_default-via-in-Compact+else-n-p w ↦ no-count (map (λ x. x.entry) (packed_at c.args.text.now (w.in-Compact.p.first + c.args.n * 6))) w.in-Compact.p.count c.args.n w.if-n-p.false ∙ peer-by c.args.text.now c.args.n c.read.ensures (c.in_ok-p.was ∙ ap Ok w.in-Compact.is)
      | in_default-via-in-List+else-n-p-2 w ↦ no-count (map (λ x. x.entry) (nth_at c.args.n c.args.text.now w.in-List.p.first)) w.in-List.p.count c.args.n w.if-n-p-2.false ∙ peer-by c.args.text.now c.args.n c.read.ensures (c.in_ok-p.was ∙ ap Ok w.in-List.is)
      | in_default-via-in_default w ↦ no-entry c.args.text.now c.args.n c.in_ok-p.field-0 w.in_default.not-Compact w.in_default.not-List ∙ peer-by c.args.text.now c.args.n c.read.ensures c.in_ok-p.was
    ]
