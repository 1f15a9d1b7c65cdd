-- From any two outcomes that the contract permits for one entry, equality; and what a refusal and a wait leave. Assumes nothing.
use mathlib.Core.Path.{◌≡◌, sym, ap, subst, ◌∙◌}
use mathlib.Core.List.{List}
use Prim.Native.Nat.{ℕ}
use Rattle.yard_tables.specs.Tables.{Around, around, Turn, turn, paper}
use Rattle.yard_tables.specs.Frames.{feed_of}
use Rattle.yard_tables.proofs.Keeping.{Unused, feed-keeps}
use Rattle.yard_tables.proofs.Telling.{turn-tells}
use Rattle.yard_tables.specs.declared.Head.{Head}
use Rattle.yard_tables.specs.declared.Seat.{Seat}
use Rattle.yard_tables.specs.declared.Stepped.{Stepped}

module _ (h : Head) (s : Seat) (rows holders : List ℕ) (i n : ℕ) (bytes : List ℕ) where
  pub feed-determined : (r q : Stepped) (rows₁ rows₂ holders₁ holders₂ : List ℕ) → turn r rows₁ holders₁ ≡ feed_of i bytes n (around h s rows holders)
      → turn q rows₂ holders₂ ≡ feed_of i bytes n (around h s rows holders) → (r ≡ q) × (rows₁ ≡ rows₂) × (holders₁ ≡ holders₂)
  feed-determined r q rows₁ rows₂ holders₁ holders₂ a b = turn-tells r q rows₁ rows₂ holders₁ holders₂ (a ∙ sym b)

  -- where it refuses, or more bytes are needed, everything is as it was
  pub unused-keeps : (r : Stepped) (rows₁ holders₁ : List ℕ) → turn r rows₁ holders₁ ≡ feed_of i bytes n (around h s rows holders) → Unused (paper r.answer)
      → (r.head ≡ h) × (r.seat ≡ s) × (rows₁ ≡ rows) × (holders₁ ≡ holders)
  unused-keeps r rows₁ holders₁ e u =
      let k : around r.head r.seat rows₁ holders₁ ≡ around h s rows holders =
      ap (λ (t : Turn). t.after) e ∙ feed-keeps (around h s rows holders) i bytes n (subst Unused (ap (λ (t : Turn). t.answer) e) u) in
      (ap (λ (x : Around). x.head) k, ap (λ (x : Around). x.seat) k, ap (λ (x : Around). x.rows) k, ap (λ (x : Around). x.holders) k)
