-- `next` of the parts meets its contract. The invariant: the files passed have no part. Assumes nothing.
use Rattle.std.proofs.Common.{◌≡◌, length}
use Rattle.torrent_blocks.specs.Steps.{parts_left}
use Rattle.torrent_blocks.proofs.parts.PartsIterator.next.Given as goal

abbrev pub invariant-loop-file : goal.invariant-loop-file
invariant-loop-file l = parts_left l.self ≡ parts_left l.fn.self

abbrev pub decreases-loop-file : goal.decreases-loop-file
decreases-loop-file l = length l.self.files.lengths.now
