-- `torrent_contents::files::nth` meets its contract. Assumes nothing.
use Rattle.std.proofs.Common.{◌≡◌, ◌-◌}
use Rattle.torrent_contents.specs.Steps.{walk_to}
use Rattle.torrent_contents.proofs.files.nth.Given as goal

abbrev pub invariant-loop-n : goal.invariant-loop-n
invariant-loop-n l = walk_to (l.number - l._n) l.text l.at l.passed.0 ≡ walk_to l.number l.text l.first 0
