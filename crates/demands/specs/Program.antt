-- What a program does that starts a yard and then makes any calls, or asks for a page of the missing list: each as its own contract permits it. Assumes nothing.
use Rattle.std.specs.Prelude.{◌≡◌, Bool, List, [], ◌∷◌, ℕ, ◌≤◌, length, take}
use Rattle.paging_laws.specs.Pages.{Printed}
use Rattle.refusal.specs.Paper.{taken}
use Rattle.yard_tables.specs.Tables.{Yard, yard_of, done}
use Rattle.yard_tables.specs.Step.{Call, step, written}
use Rattle.yard_tables.specs.declared.Head.{Head}
use Rattle.yard_tables.specs.declared.Seat.{Seat}
use Rattle.yard_telling.specs.declared.Told.{Told}
use Rattle.yard_laws.specs.History.{History, entry}
use Rattle.demands.specs.One.{Lent, before, after}
use Rattle.demands.specs.One.Doors.Yard as yard

-- the four tables, as they are lent to a call and as it leaves them
pub record Tables : Type 0 where
  pub head : Lent Head
  pub seats : Lent (List Seat)
  pub rows : Lent (List ℕ)
  pub holders : Lent (List ℕ)

-- what the call finds in them
abbrev pub found : Tables → Yard
found t = yard_of (before t.head) (before t.seats) (before t.rows) (before t.holders)

-- the contract of the call c on the tables t permits the number r, and the tables z afterwards: those lent by `&mut` as the call leaves them, the others as they
-- were. A record, a seat, a frame or a page that is lent beside them holds what the contract says
pub data Permits (t : Tables) : Call → ℕ → Yard → Type 0 where
  starts : (p l k r : ℕ) → yard.start-ensures p l k r t.head t.seats t.rows t.holders
      → Permits t (Call.start p l k) r (yard_of (after t.head) (after t.seats) (after t.rows) (after t.holders))
  sits : (r : ℕ) (told : Lent Told) → yard.sit-ensures t.holders r t.head t.seats t.rows told
      → Permits t Call.sit r (yard_of (after t.head) (after t.seats) (after t.rows) (before t.holders))
  leaves : (i r : ℕ) → yard.leave-ensures i r t.head t.seats t.rows t.holders
      → Permits t (Call.leave i) r (yard_of (after t.head) (after t.seats) (after t.rows) (after t.holders))
  feeds : (i : ℕ) (bytes : Lent (List ℕ)) (r : ℕ) (told : Lent Told) → yard.feed-ensures i bytes r t.head t.seats t.rows t.holders told
      → Permits t (Call.feed i (before bytes)) r (yard_of (after t.head) (after t.seats) (after t.rows) (after t.holders))
  chokes : (i : ℕ) (on : Bool) (r : ℕ) (frame : Lent (List ℕ)) → yard.choke-ensures t.rows t.holders i on r t.head t.seats frame
      → Permits t (Call.choke i on (length (before frame))) r (yard_of (after t.head) (after t.seats) (before t.rows) (before t.holders))
  interests : (i : ℕ) (on : Bool) (r : ℕ) (frame : Lent (List ℕ)) → yard.interest-ensures t.rows t.holders i on r t.head t.seats frame
      → Permits t (Call.interest i on (length (before frame))) r (yard_of (after t.head) (after t.seats) (before t.rows) (before t.holders))
  lists : (first r : ℕ) (page : Lent (List ℕ)) (told : Lent Told) → yard.missing-ensures t.seats t.rows t.holders first r t.head page told
      → Permits t (Call.missing first (length (before page))) r (yard_of (after t.head) (before t.seats) (before t.rows) (before t.holders))
  picks : (r : ℕ) (told : Lent Told) → yard.scarcest-ensures t.seats t.rows t.holders r t.head told
      → Permits t Call.scarcest r (yard_of (after t.head) (before t.seats) (before t.rows) (before t.holders))
  looks : (i r : ℕ) (seen : Lent Seat) → yard.look-ensures t.seats t.rows t.holders i r t.head seen
      → Permits t (Call.look i) r (yard_of (after t.head) (before t.seats) (before t.rows) (before t.holders))
  asks : (i p r : ℕ) (told : Lent Told) → yard.has-ensures t.seats t.rows t.holders i p r t.head told
      → Permits t (Call.has i p) r (yard_of (after t.head) (before t.seats) (before t.rows) (before t.holders))
  counts : (p r : ℕ) (told : Lent Told) → yard.count-ensures t.seats t.rows t.holders p r t.head told
      → Permits t (Call.count p) r (yard_of (after t.head) (before t.seats) (before t.rows) (before t.holders))
  turns : (r : ℕ) (told : Lent Told) → yard.round-ensures t.rows t.holders r t.head t.seats told
      → Permits t Call.round r (yard_of (after t.head) (after t.seats) (before t.rows) (before t.holders))

-- the calls that tell by a record, with it
pub data Telling (t : Tables) : Call → ℕ → Lent Told → Type 0 where
  tells-sit : (r : ℕ) (told : Lent Told) → yard.sit-ensures t.holders r t.head t.seats t.rows told → Telling t Call.sit r told
  tells-feed : (i : ℕ) (bytes : Lent (List ℕ)) (r : ℕ) (told : Lent Told) → yard.feed-ensures i bytes r t.head t.seats t.rows t.holders told → Telling t (Call.feed i (before bytes)) r told
  tells-page : (first r : ℕ) (page : Lent (List ℕ)) (told : Lent Told) → yard.missing-ensures t.seats t.rows t.holders first r t.head page told
      → Telling t (Call.missing first (length (before page))) r told
  tells-scarcest : (r : ℕ) (told : Lent Told) → yard.scarcest-ensures t.seats t.rows t.holders r t.head told → Telling t Call.scarcest r told
  tells-has : (i p r : ℕ) (told : Lent Told) → yard.has-ensures t.seats t.rows t.holders i p r t.head told → Telling t (Call.has i p) r told
  tells-count : (p r : ℕ) (told : Lent Told) → yard.count-ensures t.seats t.rows t.holders p r t.head told → Telling t (Call.count p) r told
  tells-round : (r : ℕ) (told : Lent Told) → yard.round-ensures t.rows t.holders r t.head t.seats told → Telling t Call.round r told

-- the history h and the tables y come of calls on the tables `lent`. What each call tells is the answer of `step`, which the history keeps
pub data Made (lent : Yard) : History → Yard → Type 0 where
  -- first a start that is accepted: 0 is its number
  started : (t : Tables) (p l k : ℕ) (y : Yard) → found t ≡ lent → Permits t (Call.start p l k) 0 y → Made lent (entry (Call.start p l k) (taken done) [] ∷ []) y
  -- then one call more, on the tables as they are
  called : (h : History) (t : Tables) (c : Call) (r : ℕ) (z : Yard) → Made lent h (found t) → Permits t c r z
      → Made lent (entry c (step c (found t)).answer (written c (found t)) ∷ h) z

-- a page of the missing list is asked for from a first seat on, with room for a line at least and anything on it: what the caller has of it, and the tables that are left
pub data Asks (y : Yard) (first : ℕ) : Printed ℕ → Yard → Type 0 where
  asked : (t : Tables) → found t ≡ y → (r : ℕ) (page : Lent (List ℕ)) (told : Lent Told) → 1 ≤ length (before page)
      → yard.missing-ensures t.seats t.rows t.holders first r t.head page told
      → Asks y first
      (record { number = r; room = length (before page); lines = take (after told).value (after page); total = (after told).total; next = (after told).next })
      (yard_of (after t.head) (before t.seats) (before t.rows) (before t.holders))
