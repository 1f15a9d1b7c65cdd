-- Demand 1 of `refusal`: a refusal made, the lesser of two, four bytes as a number, and numbers of two, four and eight bytes at a place. Assumes nothing.
use Rattle.std.specs.Prelude.{Bool, List, [], ◌∷◌, ◌≡◌, ℕ, Option, min}
use Rattle.refusal.specs.BigEndian.{big_endian_of, number_as, number_at, fits, number_written}
use Rattle.refusal.specs.declared.Refusal.{Refusal}
use Rattle.refusal.specs.declared.big_endian.BigEndian.{Ghosts}
use Rattle.demands.specs.One.{Lent, now}

-- refusal::refuse
abbrev pub refuse-ensures : (number place : ℕ) → Refusal → Type 0
refuse-ensures number place r = r ≡ record { number = number; place = place }

-- refusal::least
abbrev pub least-ensures : (a b : ℕ) → ℕ → Type 0
least-ensures a b r = r ≡ min a b

-- refusal::big_endian::read
abbrev pub read-ensures : {N : Type 0} (T : Ghosts N) (text : Lent (List ℕ)) (at : ℕ) → Option N → Type 0
read-ensures T text at r = r ≡ number_as T.of T.WIDTH (now text.entry) at

-- refusal::big_endian::write
abbrev pub write-ensures : {N : Type 0} (T : Ghosts N) (at : ℕ) (x : N) → Bool → Lent (List ℕ) → Type 0
write-ensures T at x r out = (r ≡ fits T.WIDTH (now out.entry) at) × (now out.exit ≡ number_written T.WIDTH (now out.entry) at (T.value x))

-- refusal::big_endian::joined
abbrev pub joined-ensures : (a b c d : ℕ) → ℕ → Type 0
joined-ensures a b c d r = r ≡ big_endian_of (a ∷ b ∷ c ∷ d ∷ [])

-- ---- those at each type: a number of two, four or eight bytes

-- refusal::big_endian::read at u16
abbrev pub read2-ensures : (text : Lent (List ℕ)) (at : ℕ) → Option ℕ → Type 0
read2-ensures text at r = r ≡ number_at 2 (now text.entry) at

-- refusal::big_endian::read at u32
abbrev pub read4-ensures : (text : Lent (List ℕ)) (at : ℕ) → Option ℕ → Type 0
read4-ensures text at r = r ≡ number_at 4 (now text.entry) at

-- refusal::big_endian::read at u64
abbrev pub read8-ensures : (text : Lent (List ℕ)) (at : ℕ) → Option ℕ → Type 0
read8-ensures text at r = r ≡ number_at 8 (now text.entry) at

-- refusal::big_endian::write at u16
abbrev pub write2-ensures : (at x : ℕ) → Bool → Lent (List ℕ) → Type 0
write2-ensures at x r out = (r ≡ fits 2 (now out.entry) at) × (now out.exit ≡ number_written 2 (now out.entry) at x)

-- refusal::big_endian::write at u32
abbrev pub write4-ensures : (at x : ℕ) → Bool → Lent (List ℕ) → Type 0
write4-ensures at x r out = (r ≡ fits 4 (now out.entry) at) × (now out.exit ≡ number_written 4 (now out.entry) at x)

-- refusal::big_endian::write at u64
abbrev pub write8-ensures : (at x : ℕ) → Bool → Lent (List ℕ) → Type 0
write8-ensures at x r out = (r ≡ fits 8 (now out.entry) at) × (now out.exit ≡ number_written 8 (now out.entry) at x)
