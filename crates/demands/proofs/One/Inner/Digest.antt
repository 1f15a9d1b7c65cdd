-- Demand 1 of `hash_digest`: words of 32 bits and blocks of a message. Assumes nothing.
use Rattle.std.specs.Prelude.{List, ℕ}
use Rattle.std.proofs.Common.{sym, ◌∙◌}
use Rattle.demands.specs.One.{Lent, Determined}
use Rattle.demands.specs.One.Inner.Digest.{gathered-ensures, choose-ensures, odd-ensures, most-ensures}

-- hash_digest::message::gathered
pub gathered-determined : (held part : Lent (List ℕ)) → Determined (gathered-ensures held part)
gathered-determined held part r r' e f = e ∙ sym f

-- hash_digest::word::choose
pub choose-determined : (x y z : ℕ) → Determined (choose-ensures x y z)
choose-determined x y z r r' e f = e ∙ sym f

-- hash_digest::word::odd
pub odd-determined : (x y z : ℕ) → Determined (odd-ensures x y z)
odd-determined x y z r r' e f = e ∙ sym f

-- hash_digest::word::most
pub most-determined : (x y z : ℕ) → Determined (most-ensures x y z)
most-determined x y z r r' e f = e ∙ sym f
