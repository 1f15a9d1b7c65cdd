-- `week::entries::given` meets its contract. Assumes nothing.
use Rattle.week.proofs.Tabling.{run-hit, run-other, no_run}
use Rattle.week.proofs.entries.given.Goals as goal

pub loop-i-init : goal.loop-i-init
loop-i-init c = no_run c.args.hash.now c.args.bytes.now c.args.from c.args.stride

pub returns-then-eq : goal.returns-then-eq
returns-then-eq c = run-hit c.args.hash.now c.args.bytes.now c.args.from c.args.stride c.loop-i.i c.args.count c.loop-i-test.true c.eq.ensures c.if-eq.true

pub loop-i-preserved : goal.loop-i-preserved
loop-i-preserved c = run-other c.args.hash.now c.args.bytes.now c.args.from c.args.stride c.loop-i.i c.loop-i.invariant c.eq.ensures c.if-eq.false
