-- `tracker::listed::past_run` meets its contract. Assumes nothing.
use Rattle.tracker.proofs.Matching.{run-reads}
use Rattle.tracker.proofs.listed.past_run.Goals as goal

pub returns-then-starts_with : goal.returns-then-starts_with
returns-then-starts_with c = run-reads c.args.text.now c.args.run.now c.args.at c.starts_with.result c.if-at-text.true c.starts_with.ensures.value c.if-starts_with.true
