-- Demand 1 of `hash_sha1`: a digest of a slice or in parts, and digests compared. Assumes nothing.
use Rattle.refusal.specs.Paper.{paper}
use Rattle.std.specs.Prelude.{List, ℕ}
use Rattle.std.proofs.Common.{sym, ◌∙◌}
use Rattle.hash_sha1.specs.declared.stream.Stream.{Stream}
use Rattle.hash_sha1.proofs.Determined as laws
use Rattle.refusal.proofs.Outcomes.{paper-determined}
use Rattle.demands.specs.One.{Lent, Determined1, Keeps1, Refused, Determined}
use Rattle.demands.specs.One.Doors.Sha1.{digest-ensures, agrees-ensures, start-ensures, add-ensures, finish-ensures}

-- hash_sha1::digest
pub digest-determined : (message : Lent (List ℕ)) → Determined1 (digest-ensures message)
digest-determined message out r r' out₁ out₂ e f = laws.digest-determined _ _ r r' e f

pub digest-keeps : (message : Lent (List ℕ)) → Keeps1 (digest-ensures message) (λ r. Refused (paper r))
digest-keeps message r out e k = (laws.digest-refusal-keeps _ _ r e k.2).1

-- hash_sha1::agrees
pub agrees-determined : (message expected : Lent (List ℕ)) → Determined (agrees-ensures message expected)
agrees-determined message expected r r' e f = paper-determined _ r r' e f

-- hash_sha1::stream::start
pub start-determined : Determined start-ensures
start-determined r r' e f = e ∙ sym f

-- hash_sha1::stream::add
pub add-determined : (s : Stream) (part : Lent (List ℕ)) → Determined (add-ensures s part)
add-determined s part r r' e f = e ∙ sym f

-- hash_sha1::stream::finish
pub finish-determined : (s : Stream) → Determined1 (finish-ensures s)
finish-determined s out r r' out₁ out₂ e f = laws.finish-determined _ _ r r' e f

pub finish-keeps : (s : Stream) → Keeps1 (finish-ensures s) (λ r. Refused (paper r))
finish-keeps s r out e k = (laws.finish-refusal-keeps _ _ r e k.2).1
