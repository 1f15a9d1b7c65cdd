-- From any two outcomes that a contract permits for one entry, equality. Assumes nothing.
use Rattle.std.specs.Prelude.{Result, Ok, Err}
use Rattle.refusal.specs.declared.Refusal.{Refusal}
use mathlib.Core.Path.{◌≡◌, refl, sym, ap, ◌∙◌}
use mathlib.Core.List.{List}
use Prim.Native.Nat.{ℕ}
use lib.ListN.{length, replicate, length-replicate}
use lib.Seq.{sets}
use Rattle.yard_tables.specs.Seats.{cleared}
use Rattle.refusal.specs.Paper.{Outcome, taken, refused}
use Rattle.yard_tables.specs.Tables.{Said, Around, around, Turn, turn, paper, Out, yard_of}
use Rattle.yard_tables.specs.Looks.{seat_of}
use Rattle.yard_tables.specs.Seating.{start_of, sit_of, leave_of, mark_of}
use Rattle.yard_tables.specs.Step.{if_taken}
use Rattle.yard_tables.proofs.Telling.{paper-tells, turn-tells}
use Rattle.yard_tables.specs.declared.Head.{Head}
use Rattle.yard_tables.specs.declared.Seat.{Seat}
use Rattle.yard_tables.specs.declared.Stepped.{Stepped}
use Rattle.yard_tables.specs.declared.Answer.{Answer}
use Rattle.yard_seating.specs.Steps.{begun}

module _ (h : Head) (s : Seat) (rows holders : List ℕ) (i n : ℕ) where
  abbrev X : Around
  X = around h s rows holders

  pub sit-determined : (r q : Stepped) (rows₁ rows₂ : List ℕ) → turn r rows₁ holders ≡ sit_of i n X → turn q rows₂ holders ≡ sit_of i n X → (r ≡ q) × (rows₁ ≡ rows₂)
  sit-determined r q rows₁ rows₂ a b = let t = turn-tells r q rows₁ rows₂ holders holders (a ∙ sym b) in (t.0, t.1)

  pub leave-determined : (r q : Stepped) (rows₁ rows₂ holders₁ holders₂ : List ℕ) → turn r rows₁ holders₁ ≡ leave_of i n X → turn q rows₂ holders₂ ≡ leave_of i n X
      → (r ≡ q) × (rows₁ ≡ rows₂) × (holders₁ ≡ holders₂)
  leave-determined r q rows₁ rows₂ holders₁ holders₂ a b = turn-tells r q rows₁ rows₂ holders₁ holders₂ (a ∙ sym b)

  -- of a mark, with the lent output o
  pub mark-determined : (f : Seat → Seat) (bytes o : List ℕ) (r q : Stepped) (o₁ o₂ : List ℕ) → turn r rows holders ≡ mark_of f (length o) i n X → o₁ ≡ sets o 0 (if_taken (paper r.answer) bytes)
      → turn q rows holders ≡ mark_of f (length o) i n X → o₂ ≡ sets o 0 (if_taken (paper q.answer) bytes) → (r ≡ q) × (o₁ ≡ o₂)
  mark-determined f bytes o r q o₁ o₂ a c b d =
      let e : r ≡ q = (turn-tells r q rows rows holders holders (a ∙ sym b)).0 in
      (e, c ∙ ap (λ (x : Stepped). sets o 0 (if_taken (paper x.answer) bytes)) e ∙ sym d)

  pub seat-determined : (r q : Result Answer Refusal) → paper r ≡ (seat_of i n X).answer → paper q ≡ (seat_of i n X).answer → r ≡ q
  seat-determined r q a b = paper-tells r q (a ∙ sym b)

-- of the looks that hold for any seat
pub look-determined : (f : Seat → Turn) (r q : Result Answer Refusal) → ((s : Seat) → paper r ≡ (f s).answer) → ((s : Seat) → paper q ≡ (f s).answer) → Seat → r ≡ q
look-determined f r q a b s = paper-tells r q (a s ∙ sym (b s))

-- what starting leaves tells its answer
abbrev back : Outcome Said → Head → Result Head Refusal
back (taken x) g = Ok g
back (refused n p) g = Err (record { number = n; place = p })

back_is : (r : Result Head Refusal) (h : Head) (seats : List Seat) (rows holders : List ℕ) → let o : Out = begun r h seats rows holders in back o.answer o.yard.head ≡ r
back_is (Ok g) h seats rows holders = refl
back_is (Err x) h seats rows holders = refl

-- and the rows and the counts
lent_is : (r : Result Head Refusal) (h : Head) (seats : List Seat) (rows holders : List ℕ) → let o : Out = begun r h seats rows holders in (o.yard.rows ≡ rows) × (o.yard.holders ≡ holders)
lent_is (Ok g) h seats rows holders = (refl, refl)
lent_is (Err x) h seats rows holders = (refl, refl)

-- of starting: any head and seats will do
pub start-determined : (pieces piece_length_of last_length_of n : ℕ) (rows holders : List ℕ) (r q : Result Head Refusal) (rows₁ rows₂ holders₁ holders₂ : List ℕ)
    → ((h : Head) (seats : List Seat) → length seats ≡ n → begun r h seats rows₁ holders₁ ≡ start_of pieces piece_length_of last_length_of (yard_of h seats rows holders))
    → ((h : Head) (seats : List Seat) → length seats ≡ n → begun q h seats rows₂ holders₂ ≡ start_of pieces piece_length_of last_length_of (yard_of h seats rows holders))
    → Head → (r ≡ q) × (rows₁ ≡ rows₂) × (holders₁ ≡ holders₂)
start-determined pieces piece_length_of last_length_of n rows holders r q rows₁ rows₂ holders₁ holders₂ a b h =
    let some : List Seat = replicate n cleared in
    let size : length some ≡ n = length-replicate n cleared in
    let o : begun r h some rows₁ holders₁ ≡ begun q h some rows₂ holders₂ = a h some size ∙ sym (b h some size) in (
      sym (back_is r h some rows₁ holders₁) ∙ ap (λ (x : Out). back x.answer x.yard.head) o ∙ back_is q h some rows₂ holders₂,
      sym (lent_is r h some rows₁ holders₁).0 ∙ ap (λ (x : Out). x.yard.rows) o ∙ (lent_is q h some rows₂ holders₂).0,
      sym (lent_is r h some rows₁ holders₁).1 ∙ ap (λ (x : Out). x.yard.holders) o ∙ (lent_is q h some rows₂ holders₂).1,
    )
