-- Demand 1 of `bencode_scalar`: strings and integers at a place, and the order of keys. Assumes nothing.
use Rattle.std.specs.Prelude.{List, ℕ}
use Rattle.std.proofs.Common.{sym, ◌∙◌}
use Rattle.bencode_scalar.proofs.Determined as laws
use Rattle.demands.specs.One.{Determined, Lent, now}
use Rattle.demands.specs.One.Inner.Scalar.{digit-ensures, string-ensures, integer-ensures, precedes-ensures}

-- bencode_scalar::digit
pub digit-determined : (b : ℕ) → Determined (digit-ensures b)
digit-determined b r r' e f = e ∙ sym f

-- bencode_scalar::string
pub string-determined : (text : Lent (List ℕ)) (at : ℕ) → Determined (string-ensures text at)
string-determined text at r r' e f = laws.string-determined (now text.entry) at r r' e f

-- bencode_scalar::integer
pub integer-determined : (text : Lent (List ℕ)) (at : ℕ) → Determined (integer-ensures text at)
integer-determined text at r r' e f = e 0 ∙ sym (f 0)

-- bencode_scalar::precedes
pub precedes-determined : (a b : Lent (List ℕ)) → Determined (precedes-ensures a b)
precedes-determined a b r r' e f = e ∙ sym f
