-- What a refusal of the yard's steps and calls leaves, where the crates below state it of their definitions alone. Assumes nothing.
use mathlib.Core.Path.{◌≡◌, refl, sym, ap, subst, ◌∙◌}
use mathlib.Core.Bool.{Bool, ◌&&◌}
use mathlib.Core.List.{List, []}
use Prim.Native.Nat.{ℕ}
use lib.Dec.{ltb, leb}
use lib.ListN.{length, get_or, replicate}
use lib.Seq.{sets}
use Rattle.std.specs.Prelude.{Result, Ok, Err}
use Rattle.refusal.specs.declared.Refusal.{Refusal}
use Rattle.refusal.specs.Paper.{Outcome, taken, refused, paper as start_paper}
use Rattle.yard_tables.specs.Seats.{on, cleared, we_choke, we_want}
use Rattle.yard_tables.specs.Tables.{Yard, Said, wait, done, used, serve, dropped, seated, wrote, listed, shows, holds, held_by_of, scarce, unchoked, paper, Around, Turn, turn, around, sizes_fit, Out, yard_of}
use Rattle.yard_tables.specs.Seating.{start_of, mark_of}
use Rattle.yard_tables.specs.Looks.{missing_of}
use Rattle.yard_tables.specs.Step.{Call, step, if_taken, writes, written}
use Rattle.yard_tables.specs.declared.Head.{Head}
use Rattle.yard_tables.specs.declared.Seat.{Seat}
use Rattle.yard_tables.specs.declared.Stepped.{Stepped}
use Rattle.yard_tables.proofs.Keeping.{Keeps, step_keeps, Unused as Unspoken}
use Rattle.yard_seating.specs.Steps.{begun}
use Rattle.yard_telling.specs.Telling.{code_of, told_of, shown_of}
use Rattle.yard_telling.specs.declared.Told.{Told}
use Rattle.yard_telling.proofs.Laws.{unused, told-kept as untold, shown-kept as unshown}
use mathlib.Core.Logic.{◌⊎◌, inl, inr}
use Rattle.refusal.proofs.Cases.{by-test, no_way}
use Rattle.refusal.proofs.Outcomes.{not-refused}

-- a refusal, whatever its number and place
abbrev Refuses : {A : Type 0} → Outcome A → Type 0
Refuses o = (n : ℕ) × (p : ℕ) × (o ≡ refused n p)

-- ---- the yard's steps and calls

-- the tables' own word for a refusal or a wait
pub unspoken : (o : Outcome Said) → Refuses o ⊎ (o ≡ taken wait) → Unspoken o
unspoken o (inl (n, p, e)) = subst Unspoken (sym e) tt
unspoken o (inr e) = subst Unspoken (sym e) tt

-- a step that is refused leaves the rows and the holder counts that it was lent
pub turn-kept : {x : Around} {t : Turn} → Keeps x t → (r : Stepped) {rows holders : List ℕ} → turn r rows holders ≡ t → Refuses (paper r.answer) → (rows ≡ x.rows) × (holders ≡ x.holders)
turn-kept {x} {t} k r e (n, p, h) =
    let u : Unspoken t.answer = subst Unspoken (sym h ∙ ap (λ (z : Turn). z.answer) e) tt in
    (ap (λ (z : Turn). z.after.rows) e ∙ ap (λ (z : Around). z.rows) (k u), ap (λ (z : Turn). z.after.holders) e ∙ ap (λ (z : Around). z.holders) (k u))

-- and so does a start, whatever the seats
pub start-kept : (h : Head) (p l k n : ℕ) (rows holders rows₁ holders₁ : List ℕ) (r : Result Head Refusal) → begun r h (replicate n cleared) rows₁ holders₁ ≡ start_of p l k (yard_of h (replicate n cleared) rows holders) → Refuses (start_paper r)
    → (rows₁ ≡ rows) × (holders₁ ≡ holders)
unfolding step
start-kept h p l k n rows holders rows₁ holders₁ (Ok g) e (m, q, f) = not-refused f
start-kept h p l k n rows holders rows₁ holders₁ (Err x) e f =
    let y : Yard = yard_of h (replicate n cleared) rows holders in
    let u : Unspoken (start_of p l k y).answer = subst Unspoken (ap (λ (o : Out). o.answer) e) tt in
    let z : (start_of p l k y).yard ≡ y = step_keeps y (Call.start p l k) u in
    (ap (λ (o : Out). o.yard.rows) e ∙ ap (λ (v : Yard). v.rows) z, ap (λ (o : Out). o.yard.holders) e ∙ ap (λ (v : Yard). v.holders) z)

-- ---- what C is told

-- the same tables, table by table
pub same_tables : {y : Yard} {h h' : Head} {s s' : List Seat} {w w' q q' : List ℕ} → yard_of h s w q ≡ y → yard_of h' s' w' q' ≡ y → (h ≡ h') × (s ≡ s') × (w ≡ w') × (q ≡ q')
same_tables e f =
    let g = e ∙ sym f in
    (ap (λ (z : Yard). z.head) g, ap (λ (z : Yard). z.seats) g, ap (λ (z : Yard). z.rows) g, ap (λ (z : Yard). z.holders) g)

-- a call that does not wait and is not taken writes nothing
nothing_put : (o : Outcome Said) (l : List ℕ) → (o ≡ taken wait → ⊥) → Unspoken o → if_taken o l ≡ []
nothing_put (refused n p) l w u = refl
nothing_put (taken wait) l w u = absurd (w refl)
nothing_put (taken done) l w u = absurd u
nothing_put (taken (used n)) l w u = absurd u
nothing_put (taken (serve n)) l w u = absurd u
nothing_put (taken (dropped n)) l w u = absurd u
nothing_put (taken (seated i)) l w u = absurd u
nothing_put (taken (wrote n)) l w u = absurd u
nothing_put (taken (listed x)) l w u = absurd u
nothing_put (taken (shows s)) l w u = absurd u
nothing_put (taken (holds b)) l w u = absurd u
nothing_put (taken (held_by_of n)) l w u = absurd u
nothing_put (taken (scarce p)) l w u = absurd u
nothing_put (taken (unchoked n)) l w u = absurd u

abbrev Speaks : Turn → Type 0
Speaks t = t.answer ≡ taken wait → ⊥

mark-speaks : (g : Seat → Seat) (space i n : ℕ) (x : Around) → Speaks (mark_of g space i n x)
unfolding mark_of
mark-speaks g space i n x =
    by-test Speaks (sizes_fit x.head n (length x.rows) (length x.holders))
    (λ a. by-test Speaks (ltb i n && on x.seat.taken) (λ b. by-test Speaks (ltb space 5) (λ c e. no_way (cc)) (λ c e. no_way (cc))) (λ b e. no_way (cc)))
    (λ a e. no_way (cc))

missing-speaks : (first space : ℕ) (seats : List Seat) (n : ℕ) (x : Around) → Speaks (missing_of first space seats n x)
missing-speaks first space seats n x =
    by-test Speaks (sizes_fit x.head n (length x.rows) (length x.holders))
    (λ a. by-test Speaks (leb first n) (λ b e. no_way (cc)) (λ b e. no_way (cc)))
    (λ a e. no_way (cc))

pub choke-speaks : (y : Yard) (i space : ℕ) (b : Bool) → (step (Call.choke i b space) y).answer ≡ taken wait → ⊥
unfolding step
choke-speaks y i space b = mark-speaks (we_choke b) space i (length y.seats) _

pub interest-speaks : (y : Yard) (i space : ℕ) (b : Bool) → (step (Call.interest i b space) y).answer ≡ taken wait → ⊥
unfolding step
interest-speaks y i space b = mark-speaks (we_want b) space i (length y.seats) _

pub page-speaks : (y : Yard) (first space : ℕ) → (step (Call.missing first space) y).answer ≡ taken wait → ⊥
unfolding step
page-speaks y first space = missing-speaks first space y.seats (length y.seats) (around y.head (get_or y.seats 0 cleared) y.rows y.holders)

-- a call on any tables that answers a number other than 0 leaves the tables, and what is lent for its answer
module _ (c : Call) (h : Head) (s : List Seat) (w q : List ℕ) {r : ℕ} (e : r ≡ code_of (step c (yard_of h s w q)).answer) (k : r ≡ 0 → ⊥) where
  silent : Unspoken (step c (yard_of h s w q)).answer
  silent = unused (step c (yard_of h s w q)).answer (λ z. k (e ∙ z))

  pub tables-kept : {h' : Head} {s' : List Seat} {w' q' : List ℕ} → yard_of h' s' w' q' ≡ (step c (yard_of h s w q)).yard → (h' ≡ h) × (s' ≡ s) × (w' ≡ w) × (q' ≡ q)
  tables-kept f = same_tables (f ∙ step_keeps (yard_of h s w q) c silent) refl

  pub told-kept : {was t : Told} → t ≡ told_of (step c (yard_of h s w q)).answer was → t ≡ was
  told-kept {was} f = f ∙ untold (step c (yard_of h s w q)).answer was silent

  pub shown-kept : {was t : Seat} → t ≡ shown_of (step c (yard_of h s w q)).answer was → t ≡ was
  shown-kept {was} f = f ∙ unshown (step c (yard_of h s w q)).answer was silent

  -- and what is lent for a frame or a page, if it never waits
  pub put-kept : {was t : List ℕ} → ((step c (yard_of h s w q)).answer ≡ taken wait → ⊥) → t ≡ sets was 0 (written c (yard_of h s w q)) → t ≡ was
  put-kept {was} g f = f ∙ ap (λ (b : List ℕ). sets was 0 b) (nothing_put (step c (yard_of h s w q)).answer (writes c (yard_of h s w q)) g silent)
