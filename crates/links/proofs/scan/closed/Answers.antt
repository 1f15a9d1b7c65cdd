-- `links::scan::closed` meets its contract. Assumes nothing.
use Rattle.links.proofs.Turning.{closed-last, closed-off, closed-more}
use native.Mathlib.Omega.{arith}
use Rattle.links.proofs.scan.closed.Goals as goal

pub returns-then-text-at : goal.returns-then-text-at
returns-then-text-at c = closed-last c.args.text.now c.args.at c.args.pass (omega arith)

pub returns-then-text-at-ne38 : goal.returns-then-text-at-ne38
returns-then-text-at-ne38 c = closed-off c.args.text.now c.args.at c.args.pass (omega arith) c.if-text-at-ne38.true

pub returns : goal.returns
returns c = closed-more c.args.text.now c.args.at c.args.pass (omega arith) c.if-text-at-ne38.false
