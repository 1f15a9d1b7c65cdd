-- Demand 1 of `torrent_metainfo`: whether a name may stand in a path. Assumes nothing.
use Rattle.std.specs.Prelude.{List, ℕ}
use Rattle.std.proofs.Common.{sym, ◌∙◌}
use Rattle.demands.specs.One.{Lent, Determined}
use Rattle.demands.specs.One.Inner.Metainfo.{legal_name-ensures}

-- torrent_metainfo::legal_name
pub legal_name-determined : (name : Lent (List ℕ)) → Determined (legal_name-ensures name)
legal_name-determined name r r' e f = e ∙ sym f
