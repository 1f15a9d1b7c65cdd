-- Demand 1 of `yard_hearing`: a frame for a seat, by value. Assumes nothing.
use Rattle.std.specs.Prelude.{List, ℕ}
use Rattle.std.proofs.Common.{sym, ◌∙◌}
use Rattle.yard_tables.specs.Tables.{paper}
use Rattle.yard_tables.specs.declared.Head.{Head}
use Rattle.yard_tables.specs.declared.Seat.{Seat}
use Rattle.yard_hearing.proofs.Determined as laws
use Rattle.demands_laws.proofs.Keeping.{unspoken}
use Rattle.demands.specs.One.{Lent, now, Determined, Determined2, Unused, Keeps2}
use Rattle.demands.specs.One.Inner.Hearing.{feed_step-ensures, heard_head-ensures}

-- yard_hearing::feed_step
pub feed_step-determined : (h : Head) (s : Seat) (i n : ℕ) (bytes : Lent (List ℕ)) → Determined2 (feed_step-ensures h s i n bytes)
feed_step-determined h s i n bytes rows holders r r' rows₁ rows₂ holders₁ holders₂ e f = laws.feed-determined _ _ _ _ _ _ _ r r' _ _ _ _ e f

pub feed_step-keeps : (h : Head) (s : Seat) (i n : ℕ) (bytes : Lent (List ℕ)) → Keeps2 (feed_step-ensures h s i n bytes) (λ r. Unused (paper r.answer))
feed_step-keeps h s i n bytes r rows holders e k =
    let t = laws.unused-keeps h s (now rows.entry) (now holders.entry) i n (now bytes.entry) r (now rows.exit) (now holders.exit) e (unspoken (paper r.answer) k) in (t.2, t.3)

-- yard_hearing::heard_head
pub heard_head-determined : (was h : Head) → Determined (heard_head-ensures was h)
heard_head-determined was h r r' e f = e ∙ sym f
