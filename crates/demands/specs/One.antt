-- DEMAND 1: every input gets an answer, nothing is taken on trust, a refusal changes nothing. Assumes nothing.
-- 1. No public function has a `requires`: tests/determined looks. Each is proved safe and ending: `rt check` does.
-- 2, 3. The words of these statements are below. The functions stand under their paths, those that a user calls in One/Doors and those that only crates
-- need in One/Inner: a function's contract as `src/` has it (-ensures), that it permits one outcome (-determined), and that a refusal leaves what is
-- lent (-keeps): the contract here, the laws in proofs/, in a file of the same path. None is left out: tests/determined. Calls that statements speak of at once are in One/Alike.antt.
-- 4. In proofs/: One/Numbers.antt, and One/Only.antt: no other number is given, nor by a look at a place: One/Looks.antt. One/AnyTables.antt: the yard's numbers on tables that no start made.
use Rattle.std.specs.Prelude.{◌≡◌, ◌⊎◌, ℕ}
use Rattle.refusal.specs.Paper.{Outcome, taken, refused}
use Rattle.yard_tables.specs.Tables.{Said, wait}
pub mod Doors
pub mod Inner
pub mod Alike

-- ---- what is lent

-- a reference: where it lies, by block and offset, and what it holds
pub record Ref (A : Type 0) : Type 0 where
  pub ptr : ℕ × ℕ
  pub held : A

abbrev pub ref : {A : Type 0} → ℕ → ℕ → A → Ref A
ref block offset held = record { ptr = (block, offset); held = held }

abbrev pub now : {A : Type 0} → Ref A → A
now x = x.held

-- what is lent to a call: as the call finds it, and as it leaves it
pub record Lent (A : Type 0) : Type 0 where
  pub entry : Ref A
  pub exit : Ref A

abbrev pub lent : {A : Type 0} → Ref A → Ref A → Lent A
lent a x = record { entry = a; exit = x }

-- what it holds then
abbrev pub before : {A : Type 0} → Lent A → A
before x = now x.entry

abbrev pub after : {A : Type 0} → Lent A → A
after x = now x.exit

-- ---- 2: "For every input, each public function's contract determines the complete answer and the final content of everything lent, refusals too;
-- from any two permitted answers equality is proved": two outcomes that a contract C permits for one entry are the same

-- where nothing is lent by `&mut`, the answers
abbrev pub Determined : {R : Type 0} → (R → Type 0) → Type 0
Determined {R} C = (r s : R) → C r → C s → r ≡ s

-- where something is, the answers and what each thing then holds: of one thing lent, of two, and so on
abbrev pub Determined1 : {R A₁ : Type 0} → (R → Lent A₁ → Type 0) → Type 0
Determined1 {R} {A₁} C =
    (a₁ : Ref A₁)
    (r s : R) (x₁ y₁ : Ref A₁)
    → C r (lent a₁ x₁) → C s (lent a₁ y₁)
    → (r ≡ s) × (now x₁ ≡ now y₁)

abbrev pub Determined2 : {R A₁ A₂ : Type 0} → (R → Lent A₁ → Lent A₂ → Type 0) → Type 0
Determined2 {R} {A₁} {A₂} C =
    (a₁ : Ref A₁) (a₂ : Ref A₂)
    (r s : R) (x₁ y₁ : Ref A₁) (x₂ y₂ : Ref A₂)
    → C r (lent a₁ x₁) (lent a₂ x₂) → C s (lent a₁ y₁) (lent a₂ y₂)
    → (r ≡ s) × (now x₁ ≡ now y₁) × (now x₂ ≡ now y₂)

abbrev pub Determined3 : {R A₁ A₂ A₃ : Type 0} → (R → Lent A₁ → Lent A₂ → Lent A₃ → Type 0) → Type 0
Determined3 {R} {A₁} {A₂} {A₃} C =
    (a₁ : Ref A₁) (a₂ : Ref A₂) (a₃ : Ref A₃)
    (r s : R) (x₁ y₁ : Ref A₁) (x₂ y₂ : Ref A₂) (x₃ y₃ : Ref A₃)
    → C r (lent a₁ x₁) (lent a₂ x₂) (lent a₃ x₃) → C s (lent a₁ y₁) (lent a₂ y₂) (lent a₃ y₃)
    → (r ≡ s) × (now x₁ ≡ now y₁) × (now x₂ ≡ now y₂) × (now x₃ ≡ now y₃)

abbrev pub Determined4 : {R A₁ A₂ A₃ A₄ : Type 0} → (R → Lent A₁ → Lent A₂ → Lent A₃ → Lent A₄ → Type 0) → Type 0
Determined4 {R} {A₁} {A₂} {A₃} {A₄} C =
    (a₁ : Ref A₁) (a₂ : Ref A₂) (a₃ : Ref A₃) (a₄ : Ref A₄)
    (r s : R) (x₁ y₁ : Ref A₁) (x₂ y₂ : Ref A₂) (x₃ y₃ : Ref A₃) (x₄ y₄ : Ref A₄)
    → C r (lent a₁ x₁) (lent a₂ x₂) (lent a₃ x₃) (lent a₄ x₄) → C s (lent a₁ y₁) (lent a₂ y₂) (lent a₃ y₃) (lent a₄ y₄)
    → (r ≡ s) × (now x₁ ≡ now y₁) × (now x₂ ≡ now y₂) × (now x₃ ≡ now y₃) × (now x₄ ≡ now y₄)

abbrev pub Determined5 : {R A₁ A₂ A₃ A₄ A₅ : Type 0} → (R → Lent A₁ → Lent A₂ → Lent A₃ → Lent A₄ → Lent A₅ → Type 0) → Type 0
Determined5 {R} {A₁} {A₂} {A₃} {A₄} {A₅} C =
    (a₁ : Ref A₁) (a₂ : Ref A₂) (a₃ : Ref A₃) (a₄ : Ref A₄) (a₅ : Ref A₅)
    (r s : R) (x₁ y₁ : Ref A₁) (x₂ y₂ : Ref A₂) (x₃ y₃ : Ref A₃) (x₄ y₄ : Ref A₄) (x₅ y₅ : Ref A₅)
    → C r (lent a₁ x₁) (lent a₂ x₂) (lent a₃ x₃) (lent a₄ x₄) (lent a₅ x₅) → C s (lent a₁ y₁) (lent a₂ y₂) (lent a₃ y₃) (lent a₄ y₄) (lent a₅ y₅)
    → (r ≡ s) × (now x₁ ≡ now y₁) × (now x₂ ≡ now y₂) × (now x₃ ≡ now y₃) × (now x₄ ≡ now y₄) × (now x₅ ≡ now y₅)

-- ---- 3: "No lent byte or record changes": where a call answers r with a refusal, all that is lent is as it was

-- a refusal, whatever its number and place
abbrev pub Refused : {A : Type 0} → Outcome A → Type 0
Refused o = (n : ℕ) × (p : ℕ) × (o ≡ refused n p)

-- or a wait: "more bytes are needed, nothing is used"
abbrev pub Unused : Outcome Said → Type 0
Unused o = Refused o ⊎ (o ≡ taken wait)

abbrev pub Keeps1 : {R A₁ : Type 0} → (R → Lent A₁ → Type 0) → (R → Type 0) → Type 0
Keeps1 {R} {A₁} C Refuses =
    (r : R) (x₁ : Lent A₁) → C r x₁ → Refuses r
    → (now x₁.exit ≡ now x₁.entry)

abbrev pub Keeps2 : {R A₁ A₂ : Type 0} → (R → Lent A₁ → Lent A₂ → Type 0) → (R → Type 0) → Type 0
Keeps2 {R} {A₁} {A₂} C Refuses =
    (r : R) (x₁ : Lent A₁) (x₂ : Lent A₂) → C r x₁ x₂ → Refuses r
    → (now x₁.exit ≡ now x₁.entry) × (now x₂.exit ≡ now x₂.entry)

abbrev pub Keeps3 : {R A₁ A₂ A₃ : Type 0} → (R → Lent A₁ → Lent A₂ → Lent A₃ → Type 0) → (R → Type 0) → Type 0
Keeps3 {R} {A₁} {A₂} {A₃} C Refuses =
    (r : R) (x₁ : Lent A₁) (x₂ : Lent A₂) (x₃ : Lent A₃) → C r x₁ x₂ x₃ → Refuses r
    → (now x₁.exit ≡ now x₁.entry) × (now x₂.exit ≡ now x₂.entry) × (now x₃.exit ≡ now x₃.entry)

abbrev pub Keeps4 : {R A₁ A₂ A₃ A₄ : Type 0} → (R → Lent A₁ → Lent A₂ → Lent A₃ → Lent A₄ → Type 0) → (R → Type 0) → Type 0
Keeps4 {R} {A₁} {A₂} {A₃} {A₄} C Refuses =
    (r : R) (x₁ : Lent A₁) (x₂ : Lent A₂) (x₃ : Lent A₃) (x₄ : Lent A₄) → C r x₁ x₂ x₃ x₄ → Refuses r
    → (now x₁.exit ≡ now x₁.entry) × (now x₂.exit ≡ now x₂.entry) × (now x₃.exit ≡ now x₃.entry) × (now x₄.exit ≡ now x₄.entry)

abbrev pub Keeps5 : {R A₁ A₂ A₃ A₄ A₅ : Type 0} → (R → Lent A₁ → Lent A₂ → Lent A₃ → Lent A₄ → Lent A₅ → Type 0) → (R → Type 0) → Type 0
Keeps5 {R} {A₁} {A₂} {A₃} {A₄} {A₅} C Refuses =
    (r : R) (x₁ : Lent A₁) (x₂ : Lent A₂) (x₃ : Lent A₃) (x₄ : Lent A₄) (x₅ : Lent A₅) → C r x₁ x₂ x₃ x₄ x₅ → Refuses r
    → (now x₁.exit ≡ now x₁.entry) × (now x₂.exit ≡ now x₂.entry) × (now x₃.exit ≡ now x₃.entry) × (now x₄.exit ≡ now x₄.entry) × (now x₅.exit ≡ now x₅.entry)

-- or it refuses nothing: whatever the contract permits, the answer, as `said` tells it, is no refusal
abbrev pub Takes1 : {R A₁ B : Type 0} → (R → Lent A₁ → Type 0) → (R → Outcome B) → Type 0
Takes1 {R} {A₁} C said = (r : R) (x₁ : Lent A₁) → C r x₁ → Refused (said r) → ⊥
