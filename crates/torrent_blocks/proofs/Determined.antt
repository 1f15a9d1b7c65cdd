-- Two outcomes that a contract permits for one entry are the same, and a refusal leaves the lent output as it was. Assumes nothing.
use Rattle.std.specs.Prelude.{Err, Ok, Result}
use Rattle.refusal.specs.declared.Refusal.{Refusal}
use mathlib.Core.Path.{◌≡◌, refl, sym, ap, ◌∙◌}
use mathlib.Core.Bool.{Bool, true, false, cond}
use mathlib.Core.List.{List, ◌++◌}
use Prim.Native.Nat.{ℕ, ◌*◌, ◌+◌, min}
use native.Mathlib.Omega.{arith}
use lib.Dec.{leb}
use lib.ListN.{length, drop}
use Rattle.refusal.specs.Paper.{paper, Outcome, taken, refused}
use Rattle.refusal.specs.Numbers.{room}
use Rattle.refusal.proofs.Outcomes.{paper-determined}
use Rattle.torrent_blocks.specs.Rules.{largest}
use Rattle.torrent_blocks.specs.Spans.{Span, FilePart}
use Rattle.torrent_blocks.specs.Answers.{Spot, spot, place_paper, size_of, block_of, byte_of, flat, Left, left, parts_written}
use Rattle.torrent_blocks.specs.declared.rules.Total.{Total}
use Rattle.torrent_blocks.specs.declared.ContentOffset.{ContentOffset}
use Rattle.torrent_blocks.specs.declared.PieceNumber.{PieceNumber}
use Rattle.torrent_blocks.specs.declared.Spot as code
use Rattle.torrent_blocks.specs.declared.PieceOffset.{PieceOffset}

-- the answer that a byte's place says
abbrev place_as : Outcome Spot → Result code.Spot Refusal
place_as (taken s) = Ok (record { piece = record { 0 = s.piece }; offset = record { 0 = s.offset } })
place_as (refused n p) = Err (record { number = n; place = p })

place-again : (r : Result code.Spot Refusal) → place_as (place_paper r) ≡ r
place-again (Ok s) = refl
place-again (Err r) = refl

module _ (ss : List Span) (pl p o n : ℕ) (out : List ℕ) (r : Result ℕ Refusal) (l : List ℕ) (e : left (paper r) l ≡ parts_written (block_of ss pl (spot p o) n) out) where
  pub block-determined : (s : Result ℕ Refusal) (m : List ℕ) → left (paper s) m ≡ parts_written (block_of ss pl (spot p o) n) out → (r ≡ s) × (l ≡ m)
  block-determined s m f =
      (paper-determined (paper s) r s (ap (λ (x : Left). x.answer) (e ∙ sym f)) refl, ap (λ (x : Left). x.out) (e ∙ sym f))

  pub block-refusal-keeps : (k q : ℕ) → paper r ≡ refused k q → l ≡ out
  unfolding parts_written
  block-refusal-keeps k q h =
      ap (λ (x : Left). x.out) e ∙ kept (block_of ss pl (spot p o) n) (sym (ap (λ (x : Left). x.answer) e) ∙ h)
    where
      by : (t : Bool) (c : ℕ) (m : List ℕ) → (cond t (left (taken c) m) (left (refused room 0) out)).answer ≡ refused k q
          → (cond t (left (taken c) m) (left (refused room 0) out)).out ≡ out
      by true c m g = let z : ◌≡◌ {A = ℕ} 0 1 = cc in absurd (omega arith)
      by false c m g = refl

      kept : (x : Outcome (List FilePart)) → (parts_written x out).answer ≡ refused k q → (parts_written x out).out ≡ out
      kept (taken ps) g = by (leb (3 * length ps) (length out)) (length ps) (flat ps ++ drop (3 * length ps) out) g
      kept (refused i j) g = refl

pub byte-determined : (ss : List Span) (pl f o : ℕ) (r s : Result code.Spot Refusal) → place_paper r ≡ byte_of ss pl f o → place_paper s ≡ byte_of ss pl f o → r ≡ s
byte-determined ss pl f o r s e g = sym (place-again r) ∙ ap place_as (e ∙ sym g) ∙ place-again s

pub size-determined : (ss : List Span) (pl p : ℕ) (r s : Result ℕ Refusal) → paper r ≡ size_of ss pl p → paper s ≡ size_of ss pl p → r ≡ s
size-determined ss pl p r s e f = paper-determined (size_of ss pl p) r s e f

-- a running total
pub total-determined : (t n : ℕ) (r s : Total) → r.0 ≡ min (t + n) largest → s.0 ≡ min (t + n) largest → r ≡ s
total-determined t n r s e f = ap {B = Total} (λ (x : ℕ). record { 0 = x }) (e ∙ sym f)

-- a number of each numbering
pub content-determined : (n : ℕ) (r s : ContentOffset) → r.0 ≡ n → s.0 ≡ n → r ≡ s
content-determined n r s e f = ap {B = ContentOffset} (λ (x : ℕ). record { 0 = x }) (e ∙ sym f)

pub number-determined : (n : ℕ) (r s : PieceNumber) → r.0 ≡ n → s.0 ≡ n → r ≡ s
number-determined n r s e f = ap {B = PieceNumber} (λ (x : ℕ). record { 0 = x }) (e ∙ sym f)

pub offset-determined : (n : ℕ) (r s : PieceOffset) → r.0 ≡ n → s.0 ≡ n → r ≡ s
offset-determined n r s e f = ap {B = PieceOffset} (λ (x : ℕ). record { 0 = x }) (e ∙ sym f)
