-- `tracker::listed::nth` meets its contract. Assumes nothing.
use Rattle.std.proofs.Common.{◌≡◌, ◌-◌}
use Rattle.tracker.specs.Entries.{nth_at}
use Rattle.tracker.proofs.listed.nth.Given as goal

abbrev pub invariant-loop : goal.invariant-loop
invariant-loop l = nth_at (l.n - l.counter) l.text l.at ≡ nth_at l.n l.text l.first
