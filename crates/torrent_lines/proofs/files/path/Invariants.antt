-- `torrent_lines::files::path` meets its contract. Assumes nothing.
use Rattle.std.proofs.Common.{◌-◌, length}
use Rattle.torrent_lines.proofs.Walking.{PathGoing}
use Rattle.torrent_lines.proofs.files.path.Given as goal

abbrev pub invariant-loop-part : goal.invariant-loop-part
invariant-loop-part l = PathGoing l.text l.first l.at l.initial.out l.p l.mark l.to l.out

abbrev pub decreases-loop-part : goal.decreases-loop-part
decreases-loop-part l = length l.text - l.p
