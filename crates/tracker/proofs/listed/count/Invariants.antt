-- `tracker::listed::count` meets its contract. Assumes nothing.
use Rattle.tracker.proofs.Steps.{Counting}
use Rattle.std.proofs.Common.{length, ◌-◌}
use Rattle.tracker.proofs.listed.count.Given as goal

abbrev pub invariant-loop-at : goal.invariant-loop-at
invariant-loop-at l = Counting l.text l.first l.at l.n

abbrev pub decreases-loop-at : goal.decreases-loop-at
decreases-loop-at l = length l.text - l.at
