-- `torrent_metainfo::info::name_under` meets its contract. Assumes nothing.
use Rattle.std.proofs.Common.{Ok, ap, ◌∙◌}
use Rattle.torrent_metainfo.specs.Rules.{name_at}
use Rattle.torrent_metainfo.proofs.Telling.{tells-found}
use Rattle.torrent_metainfo.proofs.info.name_under.Goals as goal

pub returns-in-Found : goal.returns-in-Found
returns-in-Found c = λ d u t. tells-found c.args.text.now d c.args.dictionary name_at u c.args.sought c.in-Found.field-0 c.in-Found.at t (c.in_ok-at.was ∙ ap Ok c.in-Found.is) _ (λ v w. c.name_at.ensures d v w)
