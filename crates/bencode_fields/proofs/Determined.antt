-- Two answers that a contract of a typed look permits are the same: document 01's words tell the answers apart. Assumes nothing.
use Rattle.std.specs.Prelude.{Result, ◌≡◌, ℕ}
use Rattle.refusal.specs.Paper.{paper, Outcome}
use Rattle.refusal.specs.declared.Part.{Part}
use Rattle.refusal.specs.declared.Refusal.{Refusal}
use Rattle.refusal.proofs.Outcomes.{paper-determined}
-- seek_after
pub use Rattle.bencode_walk.proofs.Determined.{sought-determined}

-- string_at and string_under, whatever outcome their contract names
pub string-determined : (o : Outcome Part) (r t : Result Part Refusal) → paper r ≡ o → paper t ≡ o → r ≡ t
string-determined o r t e f = paper-determined o r t e f

-- natural_at and natural_under
pub natural-determined : (o : Outcome ℕ) (r t : Result ℕ Refusal) → paper r ≡ o → paper t ≡ o → r ≡ t
natural-determined o r t e f = paper-determined o r t e f

-- number_at
pub number-determined : (o : Outcome (ℕ × ℕ)) (r t : Result (ℕ × ℕ) Refusal) → paper r ≡ o → paper t ≡ o → r ≡ t
number-determined o r t e f = paper-determined o r t e f

-- list_at, list_under, dictionary_at and dictionary_under
pub inside-determined : (o : Outcome ℕ) (r t : Result ℕ Refusal) → paper r ≡ o → paper t ≡ o → r ≡ t
inside-determined o r t e f = paper-determined o r t e f
