-- `cases::line::add_places` answers a place from `at` to the room's end.
use Rattle.std.proofs.Common.{◌≤◌, length}
use Rattle.cases.proofs.line.add_places.Given as goal

abbrev pub invariant-loop : goal.invariant-loop
invariant-loop l = (l.at ≤ l.to) × (l.to ≤ length l.room)
