-- Two outcomes that a contract permits for one file are the same, and a refusal of the writer leaves the output. Assumes nothing.
use Rattle.std.specs.Prelude.{Result}
use Rattle.std.proofs.Common.{◌≡◌, ap, sym, ◌∙◌, List, ℕ}
use Rattle.refusal.specs.declared.Refusal.{Refusal}
use Rattle.refusal.specs.Paper.{paper, Outcome, refused}
use Rattle.refusal.proofs.Outcomes.{paper-determined}
use Rattle.bencode_writer.specs.Put.{Left, left}
use Rattle.bencode_writer.proofs.Laws.{paper-apart}
use Rattle.bencode_writer.proofs.Puts.{puts-keeps}
use Rattle.week.specs.Writing.{written_of, write_of}
use Rattle.week.specs.declared.Entry.{Entry}
use Rattle.week.specs.declared.Week.{Week}

-- the words tell the answers apart
pub week-determined : {o : Outcome Week} (r t : Result Week Refusal) → paper r ≡ o → paper t ≡ o → r ≡ t
week-determined {o} = paper-determined o

pub count-determined : {o : Outcome ℕ} (r t : Result ℕ Refusal) → paper r ≡ o → paper t ≡ o → r ≡ t
count-determined {o} = paper-determined o

pub told-determined : {o : Outcome Entry} (r t : Result Entry Refusal) → paper r ≡ o → paper t ≡ o → r ≡ t
told-determined {o} = paper-determined o

-- of the writer: the answer and the output
pub write-determined : (bs ns o : List ℕ) (r t : Result ℕ Refusal) {out out₁ : List ℕ} → left (paper r) out ≡ write_of bs ns o → left (paper t) out₁ ≡ write_of bs ns o → (r ≡ t) × (out ≡ out₁)
write-determined bs ns o r t e f = (paper-apart r t (ap (λ (x : Left). x.answer) (e ∙ sym f)), ap (λ (x : Left). x.out) (e ∙ sym f))

pub write-keeps : (bs ns o : List ℕ) (r : Result ℕ Refusal) {out : List ℕ} → left (paper r) out ≡ write_of bs ns o → (n p : ℕ) → paper r ≡ refused n p → out ≡ o
write-keeps bs ns o r e n p h = puts-keeps (written_of bs ns) o r e n p h
