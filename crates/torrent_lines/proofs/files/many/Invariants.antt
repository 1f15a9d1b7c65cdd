-- `torrent_lines::files::many` meets its contract. Assumes nothing.
use Rattle.std.proofs.Common.{◌-◌, length}
use Rattle.torrent_lines.proofs.Walking.{FilesGoing}
use Rattle.torrent_lines.proofs.files.many.Given as goal

abbrev pub invariant-loop-f : goal.invariant-loop-f
invariant-loop-f l = FilesGoing l.text l.first l.at l.initial.out l.p l.offset l.to l.out

abbrev pub decreases-loop-f : goal.decreases-loop-f
decreases-loop-f l = length l.text - l.p
