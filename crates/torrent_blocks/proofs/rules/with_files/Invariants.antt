-- `torrent_blocks::rules::with_files` meets its contract. The invariant: what is added so far is the total with the lengths passed. Assumes nothing.
use Rattle.std.proofs.Common.{◌≡◌, ◌+◌, ◌≤◌, take}
use Rattle.torrent_blocks.specs.Rules.{sum, largest}
use Rattle.torrent_blocks.proofs.rules.with_files.Given as goal

abbrev pub invariant-loop-n : goal.invariant-loop-n
invariant-loop-n l = (l.all.0 ≡ l.fn.total.0 + sum (take l.n-index l.lengths)) × (l.all.0 ≤ largest)
