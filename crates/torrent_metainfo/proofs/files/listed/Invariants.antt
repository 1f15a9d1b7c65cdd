-- `torrent_metainfo::files::listed` meets its contract. Assumes nothing.
use Rattle.std.proofs.Common.{◌≤◌}
use Rattle.torrent_blocks.specs.Rules.{largest}
use Rattle.torrent_metainfo.proofs.Filing.{Listing}
use Rattle.torrent_metainfo.proofs.files.listed.Given as goal

abbrev pub invariant-loop-files : goal.invariant-loop-files
invariant-loop-files l = (l.total.0 ≤ largest) × Listing l.text l.place l.first l.p l.files l.total.0
