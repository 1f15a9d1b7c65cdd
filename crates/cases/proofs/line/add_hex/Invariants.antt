-- `cases::line::add_hex` answers a place from `at` to the room's end.
use Rattle.std.proofs.Common.{◌≤◌, length}
use Rattle.cases.proofs.line.add_hex.Given as goal

abbrev pub invariant-loop-pair : goal.invariant-loop-pair
invariant-loop-pair l = (l.at ≤ l.to) × (l.to ≤ length l.room)
