-- `torrent_metainfo::names::elements` meets its contract. Assumes nothing.
use Rattle.torrent_metainfo.proofs.Naming.{Going}
use Rattle.std.proofs.Common.{length, ◌-◌}
use Rattle.torrent_metainfo.proofs.names.elements.Given as goal

abbrev pub invariant-loop-part : goal.invariant-loop-part
invariant-loop-part l = Going l.text l.first l.p

abbrev pub decreases-loop-part : goal.decreases-loop-part
decreases-loop-part l = length l.text - l.p
