-- `torrent_blocks::parts::Files::seek` meets its contract. The invariant: the files passed have none of the bytes. Assumes nothing.
use Rattle.std.proofs.Common.{length}
use Rattle.torrent_blocks.proofs.Steps.{Sought}
use Rattle.torrent_blocks.proofs.parts.Files.seek.Given as goal

abbrev pub invariant-loop-file : goal.invariant-loop-file
invariant-loop-file l = Sought l.lengths l.from.0 l.files.1.0 l.files.1.1.0.0 l.files.0.now

abbrev pub decreases-loop-file : goal.decreases-loop-file
decreases-loop-file l = length l.files.0.now
