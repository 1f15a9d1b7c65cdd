-- Demand 1 of `torrent_metainfo`: torrents, read. Assumes nothing.
use Rattle.refusal.specs.Paper.{paper}
use Rattle.std.specs.Prelude.{List, ℕ}
use Rattle.std.proofs.Common.{sym, ◌∙◌}
use Rattle.torrent_metainfo.specs.Reading.{read_of}
use Rattle.torrent_metainfo.proofs.Hashing as hashing
use Rattle.demands_laws.proofs.Digests.{hash-kept}
use Rattle.demands_laws.proofs.Refusals.{one-part}
use Rattle.refusal.proofs.Outcomes.{paper-determined}
use Rattle.demands.specs.One.{Lent, now, Determined, ref, Determined1, Keeps1, Refused}
use Rattle.demands.specs.One.Doors.Metainfo.{read-ensures, announce-ensures, name-ensures, info_hash-ensures, file_at-ensures}

-- torrent_metainfo::read
pub read-determined : (text : Lent (List ℕ)) → Determined (read-ensures text)
read-determined text r r' e f = paper-determined _ r r' e f

-- torrent_metainfo::announce
pub announce-determined : (text : Lent (List ℕ)) → Determined (announce-ensures text)
announce-determined text r r' e f = one-part ref (e.0 ∙ sym f.0, e.1.0 ∙ sym f.1.0, e.1.1 ∙ sym f.1.1)

-- torrent_metainfo::name
pub name-determined : (text : Lent (List ℕ)) → Determined (name-ensures text)
name-determined text r r' e f = one-part ref (e.0 ∙ sym f.0, e.1.0 ∙ sym f.1.0, e.1.1 ∙ sym f.1.1)

-- torrent_metainfo::info_hash
pub info_hash-determined : (text : Lent (List ℕ)) → Determined1 (info_hash-ensures text)
info_hash-determined text out r r' out₁ out₂ e f = hashing.info_hash-determined _ _ r r' _ _ e f

pub info_hash-keeps : (text : Lent (List ℕ)) → Keeps1 (info_hash-ensures text) (λ r. Refused (paper r))
info_hash-keeps text r out e k = hash-kept (now text.entry) (now out.entry) (read_of (now text.entry)) r e k.2

-- torrent_metainfo::file_at
pub file_at-determined : (text : Lent (List ℕ)) (at : ℕ) → Determined (file_at-ensures text at)
file_at-determined text at r r' e f = paper-determined _ r r' e f
