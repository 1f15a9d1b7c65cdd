-- `torrent_blocks::parts::Files::seek` meets its contract: a file that ends before the bytes is passed. Assumes nothing.
use Rattle.std.proofs.Common.{arith}
use Rattle.torrent_blocks.proofs.Steps.{sought-more}
use Rattle.torrent_blocks.proofs.parts.Files.seek.Goals as goal

pub loop-file-preserved : goal.loop-file-preserved
loop-file-preserved c = sought-more c.args.lengths.now c.args.from.0 _ c.in-Some.file c.in-Some.rest c.in-Some.ensures c.loop-file.invariant (omega arith)
