-- Demand 1 of `bencode_writer`: what the writers put one after the other. Assumes nothing.
use Rattle.refusal.specs.Paper.{paper}
use Rattle.refusal.specs.declared.Refusal.{Refusal}
use Rattle.std.specs.Prelude.{List, ◌≡◌, ℕ, ◌≤◌, ℤ, length, Result}
use Rattle.bencode_scalar.specs.Written.{decimal, written_string, written_int}
use Rattle.bencode_writer.specs.Escaped.{percent, small_hex}
use Rattle.bencode_writer.specs.Put.{left, put_of, place_past}
use Rattle.demands.specs.One.{Lent, now}

-- bencode_writer::literal
abbrev pub literal-ensures : (at : ℕ) (bytes : Lent (List ℕ)) → Result ℕ Refusal → Lent (List ℕ) → Type 0
literal-ensures at bytes r out = left (paper r) (now out.exit) ≡ put_of (now bytes.entry) at (now out.entry)

-- bencode_writer::small_hex
abbrev pub small_hex-ensures : (at : ℕ) (bytes : Lent (List ℕ)) → Result ℕ Refusal → Lent (List ℕ) → Type 0
small_hex-ensures at bytes r out = left (paper r) (now out.exit) ≡ put_of (small_hex (now bytes.entry)) at (now out.entry)

-- bencode_writer::decimal
abbrev pub decimal-ensures : (at n : ℕ) → Result ℕ Refusal → Lent (List ℕ) → Type 0
decimal-ensures at n r out = left (paper r) (now out.exit) ≡ put_of (decimal n) at (now out.entry)

-- bencode_writer::string
abbrev pub string-ensures : (at : ℕ) (bytes : Lent (List ℕ)) → Result ℕ Refusal → Lent (List ℕ) → Type 0
string-ensures at bytes r out = left (paper r) (now out.exit) ≡ put_of (written_string (now bytes.entry)) at (now out.entry)

-- bencode_writer::integer
abbrev pub integer-ensures : (at : ℕ) (z : ℤ) → Result ℕ Refusal → Lent (List ℕ) → Type 0
integer-ensures at z r out = left (paper r) (now out.exit) ≡ put_of (written_int z) at (now out.entry)

-- bencode_writer::digits
abbrev pub digits-ensures : (n : ℕ) → ℕ → Type 0
digits-ensures n r = (r ≡ length (decimal n)) × (r ≤ 20)

-- bencode_writer::end
abbrev pub end-ensures : (put : Result ℕ Refusal) → ℕ → Type 0
end-ensures put r = r ≡ place_past (paper put)

-- bencode_writer::escape
abbrev pub escape-ensures : (b : ℕ) → List ℕ → Type 0
escape-ensures b r = r ≡ percent b
