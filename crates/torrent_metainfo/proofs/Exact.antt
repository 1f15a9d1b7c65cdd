-- Torrent-exact: a text is read as a torrent exactly when it is the encoding of a value that keeps the limits and the rules. Assumes nothing.
use Rattle.std.proofs.Common.{◌≡◌, refl, ap, ◌∙◌, List, ℕ}
use Rattle.refusal.specs.Paper.{Outcome, taken, refused, then}
use Rattle.bencode.specs.Value.{Value}
use Rattle.bencode.specs.Decode.{decode}
use Rattle.bencode.specs.Exact.{Fine}
use Rattle.bencode.proofs.Exact.{taken_fine, fine-taken}
use Rattle.torrent_metainfo.specs.declared.Torrent.{Torrent}
use Rattle.torrent_metainfo.specs.Rules.{torrent_of}
use Rattle.torrent_metainfo.specs.Reading.{read_of}
use Rattle.torrent_metainfo.specs.Exact.{ExactTorrent}
use Rattle.torrent_metainfo.proofs.Naming.{no_way}

pub torrent-exact : (s : List ℕ) → ExactTorrent s (read_of s)
torrent-exact s = record { only = λ t e. go t (decode s) refl e; every = λ v t f e. ap (λ (o : Outcome Value). then o torrent_of) (fine-taken s v f) ∙ e }
  where
    go : (t : Torrent) (o : Outcome Value) → decode s ≡ o → then o torrent_of ≡ taken t → (v : Value) × Fine s v × (torrent_of v ≡ taken t)
    go t (taken v) d e = (v, taken_fine s v d, e)
    go t (refused r p) d e = no_way (cc)
