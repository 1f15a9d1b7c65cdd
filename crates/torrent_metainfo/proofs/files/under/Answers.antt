-- `torrent_metainfo::files::under` meets its contract. Assumes nothing.
use Rattle.std.proofs.Common.{subst}
use Rattle.torrent_metainfo.specs.Keys.{Tells}
use Rattle.torrent_metainfo.specs.Reading.{files_at}
use Rattle.torrent_metainfo.proofs.Filing.{with-under}
use Rattle.torrent_metainfo.proofs.files.under.Goals as goal

pub returns : goal.returns
returns c = λ d u l t. with-under c.args.text.now d c.args.info files_at u _ (subst (Tells c.args.text.now d u) c.in_ok-files.was t) c.in_ok-found.field-0 c.in_ok-found.ensures _ (λ v w. c.listed.ensures d v l w)
