-- `week::entries::given` meets its contract: none of the runs passed is the hash. Assumes nothing.
use Rattle.std.proofs.Common.{◌≡◌, false}
use Rattle.week.specs.Rules.{runs_at, among}
use Rattle.week.proofs.entries.given.Given as goal

abbrev pub invariant-loop-i : goal.invariant-loop-i
invariant-loop-i l = among l.hash (runs_at l.bytes l.from l.stride l.i) ≡ false
