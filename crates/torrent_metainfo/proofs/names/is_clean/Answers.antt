-- `torrent_metainfo::names::is_clean` meets its contract. Assumes nothing.
use Rattle.std.proofs.Common.{◌&&◌, ◌∙◌, eqb, not, rules, tests}
use Rattle.std.proofs.lemmas.Iterator.{YieldsList-from_slice}
use Rattle.std.proofs.lemmas.Iterator.Search.{all_from_yields_List}
use Rattle.torrent_metainfo.proofs.Naming.{clean-by}
use Rattle.torrent_metainfo.proofs.names.is_clean.Goals as goal

pub returns : goal.returns
returns c =
    let s = c.args.name.now in
    all_from_yields_List (λ y. not (eqb y 47) && not (eqb y 0)) _ _ c.all.result c.all.ensures.ran (YieldsList-from_slice s cc) (λ x b q k. search (rules, tests))
    ∙ clean-by s
