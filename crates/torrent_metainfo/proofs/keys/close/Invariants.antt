-- `torrent_metainfo::keys::close` meets its contract. Assumes nothing.
use Rattle.std.proofs.Common.{length, ◌-◌}
use Rattle.torrent_metainfo.proofs.Closing.{Closing}
use Rattle.torrent_metainfo.proofs.keys.close.Given as goal

abbrev pub invariant-loop-value : goal.invariant-loop-value
invariant-loop-value l = Closing l.text l.from l.p

abbrev pub decreases-loop-value : goal.decreases-loop-value
decreases-loop-value l = length l.text - l.p
