-- `torrent_metainfo::files::content` meets its contract. Assumes nothing.
use Rattle.std.proofs.Common.{Ok, ap, ◌∙◌}
use Rattle.torrent_metainfo.proofs.Filing.{content-one}
use Rattle.torrent_metainfo.proofs.files.content.Goals as goal

pub returns-in-Found-Missing : goal.returns-in-Found-Missing
returns-in-Found-Missing c = λ d a b l t u h. content-one c.args.text.now d c.args.info l a b c.args.k.length c.args.k.files t u _ c.in-Found-Missing.at _ (c.in_ok-k.was ∙ ap Ok c.in-Found-Missing.is-0) (c.in_ok-k-2.was ∙ ap Ok c.in-Found-Missing.is-1) _ (λ e v w. c.one.ensures e v w)
