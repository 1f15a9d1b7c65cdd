-- Demand 1 of `torrent_authoring`: torrents of one file, written. Assumes nothing.
use Rattle.refusal.specs.Paper.{paper}
use Rattle.std.specs.Prelude.{List, ℕ}
use Rattle.torrent_authoring.proofs.Written as laws
use Rattle.refusal.proofs.Outcomes.{paper-determined}
use Rattle.demands.specs.One.{Lent, Determined1, Keeps1, Refused, Determined}
use Rattle.demands.specs.One.Doors.Authoring.{write-ensures, size-ensures}

-- torrent_authoring::write
pub write-determined : (announce name : Lent (List ℕ)) (piece_length : ℕ) (pieces : Lent (List ℕ)) (length : ℕ) → Determined1 (write-ensures announce name piece_length pieces length)
write-determined announce name piece_length pieces length out r r' out₁ out₂ e f = laws.write-determined _ _ r e r' f

pub write-keeps : (announce name : Lent (List ℕ)) (piece_length : ℕ) (pieces : Lent (List ℕ)) (length : ℕ) → Keeps1 (write-ensures announce name piece_length pieces length) (λ r. Refused (paper r))
write-keeps announce name piece_length pieces length r out e k = (laws.refusal-keeps _ _ r e k.0 k.1 k.2).2

-- torrent_authoring::size
pub size-determined : (announce name : Lent (List ℕ)) (piece_length : ℕ) (pieces : Lent (List ℕ)) (length : ℕ) → Determined (size-ensures announce name piece_length pieces length)
size-determined announce name piece_length pieces length r r' e f = paper-determined _ r r' e f
