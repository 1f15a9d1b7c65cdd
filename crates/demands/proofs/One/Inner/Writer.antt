-- Demand 1 of `bencode_writer`: what the writers put one after the other. Assumes nothing.
use Rattle.refusal.specs.Paper.{paper}
use Rattle.refusal.specs.declared.Refusal.{Refusal}
use Rattle.std.specs.Prelude.{List, ℕ, ℤ, Result}
use Rattle.std.proofs.Common.{sym, ◌∙◌}
use Rattle.bencode_writer.proofs.Laws as laws
use Rattle.demands.specs.One.{Lent, Determined, Determined1, Keeps1, Refused}
use Rattle.demands.specs.One.Inner.Writer.{literal-ensures, small_hex-ensures, decimal-ensures, string-ensures, integer-ensures, digits-ensures, end-ensures, escape-ensures}

-- bencode_writer::literal
pub literal-determined : (at : ℕ) (bytes : Lent (List ℕ)) → Determined1 (literal-ensures at bytes)
literal-determined at bytes out r r' out₁ out₂ e f = laws.determined _ _ _ r e r' f

pub literal-keeps : (at : ℕ) (bytes : Lent (List ℕ)) → Keeps1 (literal-ensures at bytes) (λ r. Refused (paper r))
literal-keeps at bytes r out e k = (laws.refusal-keeps _ _ _ r e k.2).1

-- bencode_writer::small_hex
pub small_hex-determined : (at : ℕ) (bytes : Lent (List ℕ)) → Determined1 (small_hex-ensures at bytes)
small_hex-determined at bytes out r r' out₁ out₂ e f = laws.determined _ _ _ r e r' f

pub small_hex-keeps : (at : ℕ) (bytes : Lent (List ℕ)) → Keeps1 (small_hex-ensures at bytes) (λ r. Refused (paper r))
small_hex-keeps at bytes r out e k = (laws.refusal-keeps _ _ _ r e k.2).1

-- bencode_writer::decimal
pub decimal-determined : (at n : ℕ) → Determined1 (decimal-ensures at n)
decimal-determined at n out r r' out₁ out₂ e f = laws.determined _ _ _ r e r' f

pub decimal-keeps : (at n : ℕ) → Keeps1 (decimal-ensures at n) (λ r. Refused (paper r))
decimal-keeps at n r out e k = (laws.refusal-keeps _ _ _ r e k.2).1

-- bencode_writer::string
pub string-determined : (at : ℕ) (bytes : Lent (List ℕ)) → Determined1 (string-ensures at bytes)
string-determined at bytes out r r' out₁ out₂ e f = laws.determined _ _ _ r e r' f

pub string-keeps : (at : ℕ) (bytes : Lent (List ℕ)) → Keeps1 (string-ensures at bytes) (λ r. Refused (paper r))
string-keeps at bytes r out e k = (laws.refusal-keeps _ _ _ r e k.2).1

-- bencode_writer::integer
pub integer-determined : (at : ℕ) (z : ℤ) → Determined1 (integer-ensures at z)
integer-determined at z out r r' out₁ out₂ e f = laws.determined _ _ _ r e r' f

pub integer-keeps : (at : ℕ) (z : ℤ) → Keeps1 (integer-ensures at z) (λ r. Refused (paper r))
integer-keeps at z r out e k = (laws.refusal-keeps _ _ _ r e k.2).1

-- bencode_writer::digits
pub digits-determined : (n : ℕ) → Determined (digits-ensures n)
digits-determined n r r' e f = e.0 ∙ sym f.0

-- bencode_writer::end
pub end-determined : (put : Result ℕ Refusal) → Determined (end-ensures put)
end-determined put r r' e f = e ∙ sym f

-- bencode_writer::escape
pub escape-determined : (b : ℕ) → Determined (escape-ensures b)
escape-determined b r r' e f = e ∙ sym f
