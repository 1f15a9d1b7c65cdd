-- `cases::line::Line::list` is safe: what is put ends within the room.
use Rattle.std.proofs.Common.{◌≤◌, length}
use Rattle.cases.proofs.line.Line.list.Given as goal

abbrev pub invariant-loop-item : goal.invariant-loop-item
invariant-loop-item l = l.at ≤ length l.room
