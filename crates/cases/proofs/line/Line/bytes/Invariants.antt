-- `cases::line::Line::bytes` is safe: what is put ends within the room.
use Rattle.std.proofs.Common.{◌≤◌, length}
use Rattle.cases.proofs.line.Line.bytes.Given as goal

abbrev pub invariant-loop-part : goal.invariant-loop-part
invariant-loop-part l = l.at ≤ length l.room
