-- Demand 1 of `torrent_metainfo`: whether a name may stand in a path. Assumes nothing.
use Rattle.std.specs.Prelude.{Bool, List, ◌≡◌, ℕ}
use Rattle.torrent_metainfo.specs.Rules.{good_name}
use Rattle.demands.specs.One.{Lent, now}

-- torrent_metainfo::legal_name
abbrev pub legal_name-ensures : (name : Lent (List ℕ)) → Bool → Type 0
legal_name-ensures name r = r ≡ good_name (now name.entry)
