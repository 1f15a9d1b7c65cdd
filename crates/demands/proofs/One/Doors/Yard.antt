-- Demand 1 of `yard`: the calls over lent tables, for C. Assumes nothing.
use Rattle.std.specs.Prelude.{Bool, List, ◌≡◌, ℕ, length}
use Rattle.std.proofs.Common.{sym, ◌∙◌}
use Rattle.yard_tables.specs.Step.{Call}
use Rattle.yard_tables.specs.declared.Seat.{Seat}
use Rattle.demands_laws.proofs.Keeping.{same_tables, tables-kept, told-kept, shown-kept, put-kept, choke-speaks, interest-speaks, page-speaks}
use Rattle.demands.specs.One.{Lent, now, Determined4, Keeps4, Determined5, Keeps5, Determined3, Keeps3, Determined2, Keeps2}
use Rattle.demands.specs.One.Doors.Yard.{start-ensures, sit-ensures, leave-ensures, feed-ensures, choke-ensures, interest-ensures, missing-ensures, scarcest-ensures, look-ensures, has-ensures, count-ensures, round-ensures}

-- yard::wardrail_yard_start
pub start-determined : (pieces piece_length last_length : ℕ) → Determined4 (start-ensures pieces piece_length last_length)
start-determined pieces piece_length last_length head seats rows holders r r' head₁ head₂ seats₁ seats₂ rows₁ rows₂ holders₁ holders₂ e f =
    let t = same_tables e.1 f.1 in (e.0 ∙ sym f.0, t.0, t.1, t.2, t.3)

pub start-keeps : (pieces piece_length last_length : ℕ) → Keeps4 (start-ensures pieces piece_length last_length) (λ (r : ℕ). r ≡ 0 → ⊥)
start-keeps pieces piece_length last_length r head seats rows holders e k = tables-kept (Call.start pieces piece_length last_length) _ _ _ _ e.0 k e.1

-- yard::wardrail_yard_sit
pub sit-determined : (holders : Lent (List ℕ)) → Determined4 (sit-ensures holders)
sit-determined holders head seats rows told r r' head₁ head₂ seats₁ seats₂ rows₁ rows₂ told₁ told₂ e f =
    let t = same_tables e.2 f.2 in (e.0 ∙ sym f.0, t.0, t.1, t.2, e.1 ∙ sym f.1)

pub sit-keeps : (holders : Lent (List ℕ)) → Keeps4 (sit-ensures holders) (λ (r : ℕ). r ≡ 0 → ⊥)
sit-keeps holders r head seats rows told e k = let t = tables-kept Call.sit _ _ _ _ e.0 k e.2 in (t.0, t.1, t.2, told-kept Call.sit _ _ _ _ e.0 k e.1)

-- yard::wardrail_yard_leave
pub leave-determined : (seat : ℕ) → Determined4 (leave-ensures seat)
leave-determined seat head seats rows holders r r' head₁ head₂ seats₁ seats₂ rows₁ rows₂ holders₁ holders₂ e f =
    let t = same_tables e.1 f.1 in (e.0 ∙ sym f.0, t.0, t.1, t.2, t.3)

pub leave-keeps : (seat : ℕ) → Keeps4 (leave-ensures seat) (λ (r : ℕ). r ≡ 0 → ⊥)
leave-keeps seat r head seats rows holders e k = tables-kept (Call.leave seat) _ _ _ _ e.0 k e.1

-- yard::wardrail_yard_feed
pub feed-determined : (seat : ℕ) (bytes : Lent (List ℕ)) → Determined5 (feed-ensures seat bytes)
feed-determined seat bytes head seats rows holders told r r' head₁ head₂ seats₁ seats₂ rows₁ rows₂ holders₁ holders₂ told₁ told₂ e f =
    let t = same_tables e.2 f.2 in (e.0 ∙ sym f.0, t.0, t.1, t.2, t.3, e.1 ∙ sym f.1)

pub feed-keeps : (seat : ℕ) (bytes : Lent (List ℕ)) → Keeps5 (feed-ensures seat bytes) (λ (r : ℕ). r ≡ 0 → ⊥)
feed-keeps seat bytes r head seats rows holders told e k =
    let t = tables-kept (Call.feed seat (now bytes.entry)) _ _ _ _ e.0 k e.2 in (t.0, t.1, t.2, t.3, told-kept (Call.feed seat (now bytes.entry)) _ _ _ _ e.0 k e.1)

-- yard::wardrail_yard_choke
pub choke-determined : (rows holders : Lent (List ℕ)) (seat : ℕ) (on : Bool) → Determined3 (choke-ensures rows holders seat on)
choke-determined rows holders seat on head seats frame r r' head₁ head₂ seats₁ seats₂ frame₁ frame₂ e f =
    let t = same_tables e.0.1 f.0.1 in (e.0.0 ∙ sym f.0.0, t.0, t.1, e.1 ∙ sym f.1)

pub choke-keeps : (rows holders : Lent (List ℕ)) (seat : ℕ) (on : Bool) → Keeps3 (choke-ensures rows holders seat on) (λ (r : ℕ). r ≡ 0 → ⊥)
choke-keeps rows holders seat on r head seats frame e k =
    let t = tables-kept (Call.choke seat on (length (now frame.entry))) _ _ _ _ e.0.0 k e.0.1 in (t.0, t.1, put-kept (Call.choke seat on (length (now frame.entry))) _ _ _ _ e.0.0 k (choke-speaks _ seat _ on) e.1)

-- yard::wardrail_yard_interest
pub interest-determined : (rows holders : Lent (List ℕ)) (seat : ℕ) (on : Bool) → Determined3 (interest-ensures rows holders seat on)
interest-determined rows holders seat on head seats frame r r' head₁ head₂ seats₁ seats₂ frame₁ frame₂ e f =
    let t = same_tables e.0.1 f.0.1 in (e.0.0 ∙ sym f.0.0, t.0, t.1, e.1 ∙ sym f.1)

pub interest-keeps : (rows holders : Lent (List ℕ)) (seat : ℕ) (on : Bool) → Keeps3 (interest-ensures rows holders seat on) (λ (r : ℕ). r ≡ 0 → ⊥)
interest-keeps rows holders seat on r head seats frame e k =
    let t = tables-kept (Call.interest seat on (length (now frame.entry))) _ _ _ _ e.0.0 k e.0.1 in (t.0, t.1, put-kept (Call.interest seat on (length (now frame.entry))) _ _ _ _ e.0.0 k (interest-speaks _ seat _ on) e.1)

-- yard::wardrail_yard_missing
pub missing-determined : (seats : Lent (List Seat)) (rows holders : Lent (List ℕ)) (first : ℕ) → Determined3 (missing-ensures seats rows holders first)
missing-determined seats rows holders first head page told r r' head₁ head₂ page₁ page₂ told₁ told₂ e f =
    (e.0.0 ∙ sym f.0.0, e.2 ∙ sym f.2, e.1 ∙ sym f.1, e.0.1 ∙ sym f.0.1)

pub missing-keeps : (seats : Lent (List Seat)) (rows holders : Lent (List ℕ)) (first : ℕ) → Keeps3 (missing-ensures seats rows holders first) (λ (r : ℕ). r ≡ 0 → ⊥)
missing-keeps seats rows holders first r head page told e k =
    (e.2, put-kept (Call.missing first (length (now page.entry))) _ _ _ _ e.0.0 k (page-speaks _ first _) e.1, told-kept (Call.missing first (length (now page.entry))) _ _ _ _ e.0.0 k e.0.1)

-- yard::wardrail_yard_scarcest
pub scarcest-determined : (seats : Lent (List Seat)) (rows holders : Lent (List ℕ)) → Determined2 (scarcest-ensures seats rows holders)
scarcest-determined seats rows holders head told r r' head₁ head₂ told₁ told₂ e f = (e.0.0 ∙ sym f.0.0, e.1 ∙ sym f.1, e.0.1 ∙ sym f.0.1)

pub scarcest-keeps : (seats : Lent (List Seat)) (rows holders : Lent (List ℕ)) → Keeps2 (scarcest-ensures seats rows holders) (λ (r : ℕ). r ≡ 0 → ⊥)
scarcest-keeps seats rows holders r head told e k = (e.1, told-kept Call.scarcest _ _ _ _ e.0.0 k e.0.1)

-- yard::wardrail_yard_look
pub look-determined : (seats : Lent (List Seat)) (rows holders : Lent (List ℕ)) (seat : ℕ) → Determined2 (look-ensures seats rows holders seat)
look-determined seats rows holders seat head seen r r' head₁ head₂ seen₁ seen₂ e f = (e.0.0 ∙ sym f.0.0, e.1 ∙ sym f.1, e.0.1 ∙ sym f.0.1)

pub look-keeps : (seats : Lent (List Seat)) (rows holders : Lent (List ℕ)) (seat : ℕ) → Keeps2 (look-ensures seats rows holders seat) (λ (r : ℕ). r ≡ 0 → ⊥)
look-keeps seats rows holders seat r head seen e k = (e.1, shown-kept (Call.look seat) _ _ _ _ e.0.0 k e.0.1)

-- yard::wardrail_yard_has
pub has-determined : (seats : Lent (List Seat)) (rows holders : Lent (List ℕ)) (seat piece : ℕ) → Determined2 (has-ensures seats rows holders seat piece)
has-determined seats rows holders seat piece head told r r' head₁ head₂ told₁ told₂ e f = (e.0.0 ∙ sym f.0.0, e.1 ∙ sym f.1, e.0.1 ∙ sym f.0.1)

pub has-keeps : (seats : Lent (List Seat)) (rows holders : Lent (List ℕ)) (seat piece : ℕ) → Keeps2 (has-ensures seats rows holders seat piece) (λ (r : ℕ). r ≡ 0 → ⊥)
has-keeps seats rows holders seat piece r head told e k = (e.1, told-kept (Call.has seat piece) _ _ _ _ e.0.0 k e.0.1)

-- yard::wardrail_yard_count
pub count-determined : (seats : Lent (List Seat)) (rows holders : Lent (List ℕ)) (piece : ℕ) → Determined2 (count-ensures seats rows holders piece)
count-determined seats rows holders piece head told r r' head₁ head₂ told₁ told₂ e f = (e.0.0 ∙ sym f.0.0, e.1 ∙ sym f.1, e.0.1 ∙ sym f.0.1)

pub count-keeps : (seats : Lent (List Seat)) (rows holders : Lent (List ℕ)) (piece : ℕ) → Keeps2 (count-ensures seats rows holders piece) (λ (r : ℕ). r ≡ 0 → ⊥)
count-keeps seats rows holders piece r head told e k = (e.1, told-kept (Call.count piece) _ _ _ _ e.0.0 k e.0.1)

-- yard::wardrail_yard_round
pub round-determined : (rows holders : Lent (List ℕ)) → Determined3 (round-ensures rows holders)
round-determined rows holders head seats told r r' head₁ head₂ seats₁ seats₂ told₁ told₂ e f =
    let t = same_tables e.2 f.2 in (e.0 ∙ sym f.0, t.0, t.1, e.1 ∙ sym f.1)

pub round-keeps : (rows holders : Lent (List ℕ)) → Keeps3 (round-ensures rows holders) (λ (r : ℕ). r ≡ 0 → ⊥)
round-keeps rows holders r head seats told e k = let t = tables-kept Call.round _ _ _ _ e.0 k e.2 in (t.0, t.1, told-kept Call.round _ _ _ _ e.0 k e.1)
