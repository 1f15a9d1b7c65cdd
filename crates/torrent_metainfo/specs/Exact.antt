-- What it is for an answer to be exact. Assumes nothing: these are definitions.
use Rattle.std.specs.Prelude.{◌≡◌, List, ℕ}
use Rattle.refusal.specs.Paper.{Outcome, taken}
use Rattle.bencode.specs.Value.{Value}
use Rattle.bencode.specs.Exact.{Fine}
use Rattle.torrent_metainfo.specs.Rules.{torrent_of}
use Rattle.torrent_metainfo.specs.declared.Torrent.{Torrent}

-- a text is read as t exactly when it is the encoding of a value that keeps the limits and the rules for torrents, with t
pub record ExactTorrent (s : List ℕ) (o : Outcome Torrent) : Type 0 where
  pub only : (t : Torrent) → o ≡ taken t → (v : Value) × Fine s v × (torrent_of v ≡ taken t)
  pub every : (v : Value) (t : Torrent) → Fine s v → torrent_of v ≡ taken t → o ≡ taken t
