-- Demand 1 of `refusal`: a refusal made, the lesser of two, four bytes as a number, and numbers of two, four and eight bytes at a place. Assumes nothing.
use Rattle.std.specs.Prelude.{Bool, false, List, ◌≡◌, ◌↔◌, ℕ, Option}
use Rattle.std.proofs.Common.{◌∙◌, sym}
use mathlib.Core.Logic.Iff
use Rattle.refusal.proofs.Places as laws
use Rattle.refusal.specs.declared.big_endian.BigEndian.{Ghosts}
use Rattle.refusal.specs.contracts.big_endian.U16BigEndian.TheImpl.{ghosts as u16}
use Rattle.refusal.specs.contracts.big_endian.U32BigEndian.TheImpl.{ghosts as u32}
use Rattle.refusal.specs.contracts.big_endian.U64BigEndian.TheImpl.{ghosts as u64}
use Rattle.demands.specs.One.{Lent, now, Determined, Determined1, Keeps1}
use Rattle.demands.specs.One.Inner.Refusal.{refuse-ensures, least-ensures, read-ensures, write-ensures, joined-ensures, read2-ensures, read4-ensures, read8-ensures, write2-ensures, write4-ensures, write8-ensures}

-- refusal::refuse
pub refuse-determined : (number place : ℕ) → Determined (refuse-ensures number place)
refuse-determined number place r r' e f = e ∙ sym f

-- refusal::least
pub least-determined : (a b : ℕ) → Determined (least-ensures a b)
least-determined a b r r' e f = e ∙ sym f

-- refusal::big_endian::read
pub read-determined : {N : Type 0} (T : Ghosts N) (text : Lent (List ℕ)) (at : ℕ) → Determined (read-ensures T text at)
read-determined T text at r r' e f = laws.read-determined T.of T.WIDTH at (now text.entry) r r' e f

-- refusal::big_endian::write
pub write-determined : {N : Type 0} (T : Ghosts N) (at : ℕ) (x : N) → Determined1 (write-ensures T at x)
write-determined T at x out r r' out₁ out₂ e f = laws.write-determined T.WIDTH at (T.value x) (now out) r r' (now out₁) (now out₂) e.0 e.1 f.0 f.1

pub write-keeps : {N : Type 0} (T : Ghosts N) (at : ℕ) (x : N) → Keeps1 (write-ensures T at x) (λ (r : Bool). r ≡ false)
write-keeps T at x r out e k = e.1 ∙ laws.write-keeps T.WIDTH at (T.value x) (now out.entry) (sym e.0 ∙ k)

-- refusal::big_endian::joined
pub joined-determined : (a b c d : ℕ) → Determined (joined-ensures a b c d)
joined-determined a b c d r r' e f = e ∙ sym f

-- ---- those at each type: a number of two, four or eight bytes

-- refusal::big_endian::read at u16
pub read2-is : (text : Lent (List ℕ)) (at : ℕ) (r : Option ℕ) → read-ensures u16 text at r ↔ read2-ensures text at r
read2-is text at r = Iff.rfl

pub read2-determined : (text : Lent (List ℕ)) (at : ℕ) → Determined (read2-ensures text at)
read2-determined = read-determined u16

-- refusal::big_endian::read at u32
pub read4-is : (text : Lent (List ℕ)) (at : ℕ) (r : Option ℕ) → read-ensures u32 text at r ↔ read4-ensures text at r
read4-is text at r = Iff.rfl

pub read4-determined : (text : Lent (List ℕ)) (at : ℕ) → Determined (read4-ensures text at)
read4-determined = read-determined u32

-- refusal::big_endian::read at u64
pub read8-is : (text : Lent (List ℕ)) (at : ℕ) (r : Option ℕ) → read-ensures u64 text at r ↔ read8-ensures text at r
read8-is text at r = Iff.rfl

pub read8-determined : (text : Lent (List ℕ)) (at : ℕ) → Determined (read8-ensures text at)
read8-determined = read-determined u64

-- refusal::big_endian::write at u16
pub write2-is : (at x : ℕ) (r : Bool) (out : Lent (List ℕ)) → write-ensures u16 at x r out ↔ write2-ensures at x r out
write2-is at x r out = Iff.rfl

pub write2-determined : (at x : ℕ) → Determined1 (write2-ensures at x)
write2-determined = write-determined u16

pub write2-keeps : (at x : ℕ) → Keeps1 (write2-ensures at x) (λ (r : Bool). r ≡ false)
write2-keeps = write-keeps u16

-- refusal::big_endian::write at u32
pub write4-is : (at x : ℕ) (r : Bool) (out : Lent (List ℕ)) → write-ensures u32 at x r out ↔ write4-ensures at x r out
write4-is at x r out = Iff.rfl

pub write4-determined : (at x : ℕ) → Determined1 (write4-ensures at x)
write4-determined = write-determined u32

pub write4-keeps : (at x : ℕ) → Keeps1 (write4-ensures at x) (λ (r : Bool). r ≡ false)
write4-keeps = write-keeps u32

-- refusal::big_endian::write at u64
pub write8-is : (at x : ℕ) (r : Bool) (out : Lent (List ℕ)) → write-ensures u64 at x r out ↔ write8-ensures at x r out
write8-is at x r out = Iff.rfl

pub write8-determined : (at x : ℕ) → Determined1 (write8-ensures at x)
write8-determined = write-determined u64

pub write8-keeps : (at x : ℕ) → Keeps1 (write8-ensures at x) (λ (r : Bool). r ≡ false)
write8-keeps = write-keeps u64
