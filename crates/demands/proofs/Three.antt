-- DEMAND 3: after any sequence of calls, the yard's counts are what the history of calls says. Assumes nothing.
-- Nothing is asked of what stands in the tables that are lent first: the first call of a run is a start that is accepted, and from there on the tables are handed
-- from call to call as each leaves them. A history holds the calls with their answers, the newest first; `seated`, `announced`, `fresh`, the four marks and the bytes sent are
-- recursions on it that look at no table (yard_laws/specs/History.antt).
use Rattle.std.specs.Prelude.{◌≡◌, refl, ◌⊎◌, ◌↔◌, true, false, not, ◌&&◌, ◌||◌, ℕ, ◌+◌, ◌*◌, ◌^◌, ◌≤◌, ◌<◌, min, eqb, ltb, length, get_or, take, drop}
use Rattle.std.proofs.Common.{sym, ap, subst, ◌∙◌}
use mathlib.Core.Logic.Iff
use mathlib.Core.List.{List, ◌∷◌, ◌++◌, Memᴰ as In}
use Rattle.std.proofs.lemmas.List.Edits.{sets}
use Rattle.refusal.specs.Paper.{Outcome, taken, refused}
use Rattle.paging_laws.specs.Pages.{Printed, Follows, printed}
use Rattle.peer_wire.specs.Causes.{Zero}
use Rattle.yard_tables.specs.Counting.{bit, count, some}
use Rattle.yard_tables.specs.Rows.{width, has_in}
use Rattle.yard_tables.specs.Seats.{on, cleared}
use Rattle.yard_tables.specs.Rounds.{nobody, way, chosen}
use Rattle.yard_tables.specs.Looks.{first_or}
use Rattle.yard_tables.specs.Tables.{Yard, yard_of, Said, wait, serve, dropped, listed, scarce, unchoked, seated as gives_seat}
use Rattle.yard_tables.specs.Step.{Call, sit, feed, missing, scarcest, look, round, step, written}
use Rattle.yard_tables.specs.declared.Head.{Head}
use Rattle.yard_tables.specs.declared.Seat.{Seat}
use Rattle.yard_tables.specs.declared.Page.{Page}
use Rattle.yard_laws.specs.History.{History, Fixed, entry, sizes_of, seated, announced, fresh, Spoke, we_are_choking, we_are_interested, they_are_choking, they_are_interested, pieces, sizes_set, sent, wanting, round_number, free_place, last_place, came_in, block_in_of}
use Rattle.yard_laws.specs.Says.{all_of, lacking, record_of, Ascending, unchokes}
use Rattle.yard_laws.specs.Expected.{answer, output}
use Rattle.yard_laws.specs.Causes.{Sits, Cause, WaitCause, Serves, Drops}
use Rattle.yard_laws.specs.Given.{Gives, Writes}
use Rattle.yard_laws.specs.Damage.{Fit, Taken}
use Rattle.yard_laws.specs.Run.{SizesFit, fixed_by}
use Rattle.yard_laws.proofs.Agreeing.{Agrees}
use Rattle.yard_laws.proofs.Calls.{sizes-here}
use Rattle.yard_laws.proofs.Theorem as theorem
use Rattle.yard_laws.proofs.Demand as demand
use Rattle.yard_laws.proofs.Pages as pages
use Rattle.yard_laws.proofs.Looks as looks
use Rattle.yard_laws.proofs.Keepalive as keepalive
use Rattle.yard_laws.proofs.Rounds as rounds
use Rattle.yard_telling.specs.Telling.{code_of, told_of, shown_of}
use Rattle.yard_telling.specs.declared.Told.{Told}
use Rattle.demands_laws.specs.Paging.{Paged}
use Rattle.demands_laws.proofs.Refusals.{same_answer}
use Rattle.demands_laws.proofs.Keeping.{same_tables}
use Rattle.demands_laws.proofs.Tables.{no-wait}
use Rattle.demands_laws.proofs.Runs as runs
use Rattle.demands_laws.proofs.Rounds as after-round
use Rattle.demands_laws.proofs.Runs.{start-taken}
use Rattle.demands_laws.proofs.Numbered.{number-refuses, number-waits, at-any-place, page-told}
use Rattle.demands_laws.proofs.Paging.{page-total, page-listed, in_all}
use Rattle.demands_laws.proofs.Loaded.{nobody-lacks}
use Rattle.demands.specs.One.{Lent, before, after}
use Rattle.demands.specs.One.Doors.Yard as yard
use Rattle.demands.specs.Program.{Tables, found, Permits, Telling, Made, Asks}
use Rattle.demands.proofs.Program.{permits-step, telling-step, made-run, asks-paged}
use Rattle.demands.specs.Three.{UsesFour}

-- a start is accepted exactly when the sizes are legal and the lent tables have them, whatever stands in the tables
pub start-exact : (p l k : ℕ) (t : Tables) (r : ℕ) → yard.start-ensures p l k r t.head t.seats t.rows t.holders → r ≡ 0 ↔ SizesFit (sizes_of p l k) (found t)
start-exact p l k t r c =
    let x = theorem.accepted-exactly (sizes_of p l k) (found t) in
    (λ e. x.0 (start-taken (sizes_of p l k) (found t) (sym c.0 ∙ e)), λ s. c.0 ∙ ap code_of (x.1 s))

-- a page's list (13) is one: ascending lists with the same members are equal
pub ascending-unique : (first : ℕ) (l m : List ℕ) → Ascending first l → Ascending first m → ((j : ℕ) → In j l ↔ In j m) → l ≡ m
ascending-unique first l m = pages.ascending-unique l m

-- the history fixes the tables, rows byte for byte with their spare bits: two programs whose calls and answers were the same, on tables of as many seats, have the same
-- tables, whatever stood in them first
pub tables-fixed : (lent other : Yard) (h : History) (y z : Yard) → Made lent h y → Made other h z → fixed_by lent ≡ fixed_by other → y ≡ z
tables-fixed lent other h y z m k e = runs.run-same lent other e h h y z (made-run lent h y m) (made-run other h z k) refl

-- a keepalive, whose four bytes name the length 0 (`Zero`: peer_wire/specs/Causes.antt), says nothing: so it is where the sizes fit and a truck sits, whatever stands in
-- the tables
pub keepalive-says-nothing : (t : Tables) (i : ℕ) (bytes : Lent (List ℕ)) (r : ℕ) (told : Lent Told) → yard.feed-ensures i bytes r t.head t.seats t.rows t.holders told
    → Fit (found t) → Taken (found t) i → Zero (before bytes) → UsesFour t r told
keepalive-says-nothing t i bytes r told e fit here none =
    let k = keepalive.keepalive-kept (found t) i (before bytes) none fit here in
    let s = same_tables (e.2 ∙ k.1) refl in
    (e.0 ∙ ap code_of k.0, e.1 ∙ ap (λ (a : Outcome Said). told_of a (before told)) k.0, s.0, s.1, s.2, s.3)

-- nor does it change anything that a history says: of each seat its record and what is announced there, the sizes, and whose turn it is in which round
pub keepalive-unsaid : (h : History) (i : ℕ) (s : List ℕ) (a : Outcome Said) (w : List ℕ) → Zero s → (fixed : Fixed)
    → ((j : ℕ) → record_of fixed (entry (feed i s) a w ∷ h) j ≡ record_of fixed h j)
    × ((j p : ℕ) → announced (entry (feed i s) a w ∷ h) j p ≡ announced h j p)
    × (sizes_set (entry (feed i s) a w ∷ h) ≡ sizes_set h)
    × (round_number (entry (feed i s) a w ∷ h) ≡ round_number h)
    × (free_place fixed (entry (feed i s) a w ∷ h) ≡ free_place fixed h)
    × (last_place fixed (entry (feed i s) a w ∷ h) ≡ last_place fixed h)
keepalive-unsaid h i s a w none = keepalive.keepalive-unsaid h i s a w none

-- a truck that sits is fresh until a message of it with an id is taken: it is not exactly if one was taken since it sat down
pub fresh-until : (h : History) (i : ℕ) → seated h i ≡ true → fresh h i ≡ false ↔ Spoke h i
fresh-until h i s = keepalive.spoke-exactly i h s

-- `lent` are the tables as they were lent first; after any calls h is the history, and y are the tables
module _ (lent : Yard) (h : History) (y : Yard) (made : Made lent h y) where
  -- what the tables fix, S among it
  abbrev fixed : Fixed
  fixed = fixed_by lent

  abbrev seats : ℕ
  seats = fixed.seats

  -- what the program made is a run (`Made`: Program.antt), and so the tables agree with the history
  agrees : Agrees fixed h y
  agrees = theorem.run-agrees lent h y (made-run lent h y made)

  -- ---- 10. "The yard's counts are what the history of calls says."

  -- a piece's holders: the trucks now seated that have announced it since they last sat down
  pub holders-right : (p : ℕ) → p < pieces h → get_or y.holders p 0 ≡ count seats (λ i. seated h i && announced h i p)
  holders-right = agrees.holders-is

  -- the seats taken
  pub seated-right : y.head.taken ≡ count seats (λ i. seated h i)
  seated-right = demand.seated-right fixed h y agrees

  -- the seats complete: their trucks have announced every piece
  pub complete-right : y.head.complete ≡ count seats (λ i. seated h i && all_of (pieces h) (announced h i))
  complete-right = demand.complete-right fixed h y agrees

  -- each seat's record: its flags are 1 or 0
  pub seat-right : (i : ℕ) → i < seats → get_or y.seats i cleared ≡ record {
    taken = bit (seated h i);
    fresh = bit (fresh h i);
    am_choking = bit (we_are_choking fixed h i);
    am_interested = bit (we_are_interested h i);
    peer_choking = bit (they_are_choking h i);
    peer_interested = bit (they_are_interested h i);
    held = count (pieces h) (λ p. seated h i && announced h i p);
    bytes = sent h i;
  }
  seat-right i l = agrees.seat-is i

  -- each piece's bit in each seat's row
  pub row-right : (i p : ℕ) → i < seats → p < pieces h → has_in (width (pieces h)) y.rows i p ≡ (seated h i && announced h i p)
  row-right = agrees.row_is

  -- the sizes that the head holds, and those of the tables
  pub sizes-right : (length y.seats ≡ seats) × (y.head.pieces ≡ pieces h) × (y.head.piece_length ≡ (sizes_set h).piece_length_of) × (y.head.last_length ≡ (sizes_set h).last_length_of)
  sizes-right = (agrees.seats-len, ap (λ (k : Head). k.pieces) agrees.head-is, ap (λ (k : Head). k.piece_length) agrees.head-is, ap (λ (k : Head). k.last_length) agrees.head-is)

  pub tables-right : (length y.rows ≡ seats * width (pieces h)) × (length y.holders ≡ pieces h)
  tables-right = let f = sizes-here fixed h y agrees in (f.row, f.counts)

  -- every call's answer, and all that it writes, is the one that the history before it says: document 01's checks in their order, with no table in them
  pub answer-right : (c : Call) → (step c y).answer ≡ answer fixed h c
  answer-right = theorem.answered fixed h y agrees

  -- and so are the number that C gets of it, the record and the seat. `Permits t c r z`: the contract of the call c on the tables t permits the number r
  pub number-right : (t : Tables) → found t ≡ y → (c : Call) (r : ℕ) (z : Yard) → Permits t c r z → r ≡ code_of (answer fixed h c)
  number-right t f c r z e = (permits-step t c r z e).0 ∙ ap (λ (x : Yard). code_of (step c x).answer) f ∙ ap code_of (answer-right c)

  pub told-right : (t : Tables) → found t ≡ y → (c : Call) (r : ℕ) (told : Lent Told) → Telling t c r told → after told ≡ told_of (answer fixed h c) (before told)
  told-right t f c r told e = (telling-step t c r told e).1 ∙ ap (λ (x : Yard). told_of (step c x).answer (before told)) f ∙ ap (λ (a : Outcome Said). told_of a (before told)) (answer-right c)

  pub shown-right : (t : Tables) → found t ≡ y → (i r : ℕ) (seen : Lent Seat) → yard.look-ensures t.seats t.rows t.holders i r t.head seen
      → after seen ≡ shown_of (answer fixed h (look i)) (before seen)
  shown-right t f i r seen e = e.0.1 ∙ ap (λ (x : Yard). shown_of (step (look i) x).answer (before seen)) f ∙ ap (λ (a : Outcome Said). shown_of a (before seen)) (answer-right (look i))

  pub written-right : (c : Call) → written c y ≡ output fixed h c
  written-right = theorem.wrote fixed h y agrees

  -- so a keepalive of any truck that sits uses its 4 bytes and changes nothing
  pub keepalive-right : (t : Tables) → found t ≡ y → (i : ℕ) (bytes : Lent (List ℕ)) (r : ℕ) (told : Lent Told) → yard.feed-ensures i bytes r t.head t.seats t.rows t.holders told
      → Sits fixed h i → Zero (before bytes) → UsesFour t r told
  keepalive-right t f i bytes r told e sits =
      let (fit, here) = demand.sits-taken fixed h y agrees i sits in
      keepalive-says-nothing t i bytes r told e (subst Fit (sym f) fit) (subst (λ (x : Yard). Taken x i) (sym f) here)

  -- ---- 11. "Tops: S for head and holder counts, P for held."

  pub tops : ((p : ℕ) → p < pieces h → get_or y.holders p 0 ≤ seats) × ((i : ℕ) → i < seats → (get_or y.seats i cleared).held ≤ pieces h) × (y.head.taken ≤ seats) × (y.head.complete ≤ seats)
  tops = demand.tops fixed h y agrees

  -- no count passes the number it could truly reach: a piece has no more holders than trucks sit, no more seats are complete than taken, no truck has more pieces
  -- than there are
  pub reach : ((p : ℕ) → p < pieces h → get_or y.holders p 0 ≤ y.head.taken) × (y.head.complete ≤ y.head.taken) × ((i : ℕ) → i < seats → (get_or y.seats i cleared).held ≤ pieces h)
  reach = demand.reach fixed h y agrees

  -- ---- 12. A refusal or a wait has its listed cause in the history, and where a cause holds it is given, in document 01's order

  module _ (c : Call) where
    pub fair : (number place : ℕ) → (step c y).answer ≡ refused number place ↔ (Cause fixed h c number × (place ≡ 0))
    fair = demand.fair fixed h y agrees c

    pub fair-wait : (step c y).answer ≡ taken wait ↔ WaitCause fixed h c
    fair-wait = demand.fair-wait fixed h y agrees c

    -- without a cause the call is taken
    pub fair-taken : ((number : ℕ) → Cause fixed h c number → ⊥) → (a : Said) × ((step c y).answer ≡ taken a)
    fair-taken = demand.fair-taken fixed h y agrees c

    -- with the answer that is given: which, and with which numbers, is said beside the causes (yard_laws/specs/Given.antt)
    pub given-right : (a : Said) → (step c y).answer ≡ taken a ↔ Gives fixed h c a
    given-right = demand.given-right fixed h y agrees c

    -- and with what it writes, which is said there too
    pub writes-right : (w : List ℕ) → written c y ≡ w ↔ Writes fixed h c w
    writes-right = demand.writes-right fixed h y agrees c

    -- none is 39, where fewer than 2^53 bytes of blocks came in since the last round, a start counting as one, those of this call among them
    pub never-damaged : came_in h + block_in_of c < 2 ^ 53 → (place : ℕ) → (step c y).answer ≡ refused 39 place → ⊥
    never-damaged = demand.never-damaged fixed h y agrees c

    -- as C sees it, r being the number that it gets: 255 is a wait, and any other but 0 a refusal
    module _ (t : Tables) (f : found t ≡ y) (r : ℕ) (z : Yard) (e : Permits t c r z) where
      permitted : r ≡ code_of (step c y).answer
      permitted = (permits-step t c r z e).0 ∙ ap (λ (x : Yard). code_of (step c x).answer) f

      pub number-fair : (number : ℕ) → (number ≡ 0 → ⊥) → (number ≡ 255 → ⊥) → r ≡ number ↔ Cause fixed h c number
      number-fair number z w = Iff.trans (number-refuses permitted number z w) (at-any-place (fair number))

      pub number-wait : r ≡ 255 ↔ WaitCause fixed h c
      number-wait = Iff.trans (number-waits permitted (no-wait y c)) fair-wait

    -- "A request is answered "serve" exactly if we don't choke and they are interested, else "drop"."
    pub serves-right : (bytes : ℕ) → (step c y).answer ≡ taken (serve bytes) ↔ Serves fixed h c bytes
    serves-right = demand.serves-right fixed h y agrees c

    pub drops-right : (bytes : ℕ) → (step c y).answer ≡ taken (dropped bytes) ↔ Drops fixed h c bytes
    drops-right = demand.drops-right fixed h y agrees c

  -- "Sitting down takes the lowest free seat": seat i is one, a truck sits at each lower seat, and none at i
  pub sits-lowest : (i : ℕ) → (step sit y).answer ≡ taken (gives_seat i) → (i < seats) × ((j : ℕ) → j < i → seated h j ≡ true) × (seated h i ≡ false)
  sits-lowest i q = let (l, x) = demand.sits-lowest fixed h y agrees i q in (l, x.below, x.lacks l)

  -- ---- 13. "As many as fit; with it how many were written, the yard's whole missing total from seat 0, and the next unlisted missing seat at or after the first, or S."

  -- a page of any room from a first seat on; l is the missing list from there: ascending, with every seat whose truck lacks a piece and no other
  pub missing-total : (t : Tables) → found t ≡ y → (first r : ℕ) (page : Lent (List ℕ)) (told : Lent Told) → yard.missing-ensures t.seats t.rows t.holders first r t.head page told
      → (x : Page) → (step (missing first (length (before page))) y).answer ≡ taken (listed x)
      → (x.total ≡ count seats (λ i. seated h i && some (pieces h) (λ p. not (announced h i p))))
      × ((l : List ℕ) × Ascending first l
      × ((j : ℕ) → In j l ↔ ((first ≤ j) × (j < seats) × ((seated h j && some (pieces h) (λ p. not (announced h j p))) ≡ true)))
      × (x.written ≡ min (length (before page)) (length l))
      × (after page ≡ take (length (before page)) l ++ drop x.written (before page))
      × (x.next ≡ first_or seats (drop (length (before page)) l)))
  missing-total t f first r page told e x q =
      let c = missing first (length (before page)) in
      page-listed fixed h first (before page) (after page) x (sym (answer-right c) ∙ q) (e.1 ∙ ap (λ (z : Yard). sets (before page) 0 (written c z)) f ∙ ap (sets (before page) 0) (written-right c))

  -- "All loaded": the total is 0 exactly when every truck now seated has announced every piece since it sat down
  pub all-loaded : (first space : ℕ) (x : Page) → (step (missing first space) y).answer ≡ taken (listed x)
      → x.total ≡ 0 ↔ ((i p : ℕ) → i < seats → seated h i ≡ true → p < pieces h → announced h i p ≡ true)
  all-loaded first space x q =
      let t = page-total fixed h first space x (sym (answer-right (missing first space)) ∙ q) in
      Iff.trans (same_answer t) (nobody-lacks seats (pieces h) (seated h) (announced h))

  -- as C sees it: where a page's number is 0, `total` of its record is 0 exactly then
  pub board-right : (t : Tables) → found t ≡ y → (first : ℕ) (page : Lent (List ℕ)) (told : Lent Told) → yard.missing-ensures t.seats t.rows t.holders first 0 t.head page told
      → (after told).total ≡ 0 ↔ ((i p : ℕ) → i < seats → seated h i ≡ true → p < pieces h → announced h i p ≡ true)
  board-right t f first page told e =
      let space = length (before page) in
      let (x, q, g) = page-told fixed h first space (ap (λ (z : Yard). (step (missing first space) z).answer) f ∙ answer-right (missing first space)) (before told) (after told) e.0 in
      Iff.trans (same_answer g) (all-loaded first space x (sym (ap (λ (z : Yard). (step (missing first space) z).answer) f) ∙ q))

  -- ---- Document 02, ticket 7: "I print the missing list on any paper"

  -- "following "next" from seat 0 .., with any page sizes of at least one line and no other call between", read to the end or not (`Asks`: Program.antt; `Follows`, and what
  -- they yield: paging_laws/specs/Pages.antt; `Paged`: demands_laws/specs/Paging.antt)
  pub paging-right : (pages : List (Printed ℕ)) (next : ℕ) → Follows Asks seats y 0 pages next
      → Paged (λ i. seated h i && some (pieces h) (λ p. not (announced h i p))) seats pages next
  paging-right pages next =
      subst (λ (n : ℕ). Follows Asks n y 0 pages next → Paged (lacking h) n pages next) agrees.seats-len
      (asks-paged y (demand.sizes-fit fixed h y agrees) (lacking h) (looks.lacking-is fixed h y agrees) pages next)

  -- "until it says S .. gives every missing seat once, ascending, in all as many as the total on each page"
  pub pages-in-all : (pages : List (Printed ℕ)) → Follows Asks seats y 0 pages seats
      → Ascending 0 (printed pages)
      × ((j : ℕ) → In j (printed pages) ↔ ((j < seats) × ((seated h j && some (pieces h) (λ p. not (announced h j p))) ≡ true)))
      × ((p : Printed ℕ) → In p pages → p.total ≡ length (printed pages))
  pages-in-all pages f = in_all _ seats pages (paging-right pages seats f)

  -- ---- 14. "The scarcest piece is the smallest number among those with fewest holders."

  pub scarcest-right : (p : ℕ) → (step scarcest y).answer ≡ taken (scarce p)
      → (p < pieces h)
      × ((q : ℕ) → q < pieces h → count seats (λ i. seated h i && announced h i p) ≤ count seats (λ i. seated h i && announced h i q))
      × ((q : ℕ) → q < p → count seats (λ i. seated h i && announced h i p) < count seats (λ i. seated h i && announced h i q))
  scarcest-right p q = let x = demand.scarcest-right fixed h y agrees p q in (x.within, x.least, x.first)

  -- ---- Document 02, ticket 6: rounds

  -- the head's round number, its free place and where that last was
  pub places-right : (y.head.round ≡ round_number h) × (y.head.free ≡ free_place fixed h) × (y.head.last ≡ last_place fixed h)
  places-right = (ap (λ (k : Head). k.round) agrees.head-is, ap (λ (k : Head). k.free) agrees.head-is, ap (λ (k : Head). k.last) agrees.head-is)

  -- "the four that sent most bytes, ties to the lower seat": a truck that sits and is interested is one of them exactly if fewer than four that sit and are interested
  -- sent more bytes, or as many and sit lower
  pub four-right : (i : ℕ) → chosen seats (wanting h) (sent h) i ≡ true
      ↔ ((seated h i ≡ true) × (they_are_interested h i ≡ true)
      × (count seats (λ j. (seated h j && they_are_interested h j) && (ltb (sent h i) (sent h j) || (eqb (sent h j) (sent h i) && ltb j i))) < 4))
  four-right = rounds.chosen-exactly fixed h

  -- a round: `free` has the free place then
  module _ (t : Tables) (f : found t ≡ y) (r : ℕ) (told : Lent Told) (e : yard.round-ensures t.rows t.holders r t.head t.seats told) where
    abbrev then : Yard
    then = yard_of (after t.head) (after t.seats) (before t.rows) (before t.holders)

    abbrev free : ℕ
    free = (after t.head).free

    left : then ≡ (step round y).yard
    left = e.2 ∙ ap (λ (x : Yard). (step round x).yard) f

    -- it is never refused
    pub round-taken : r ≡ 0
    round-taken = e.0 ∙ ap (λ (x : Yard). code_of (step round x).answer) f ∙ ap code_of (answer-right round)

    -- "Our choke mark goes off at these and at the holder of the free place, and on at every other taken seat"; the bytes are cleared
    pub round-marks : (i : ℕ) → seated h i ≡ true
        → ((get_or (after t.seats) i cleared).am_choking ≡ bit (not (chosen seats (wanting h) (sent h) i || eqb i free))) × ((get_or (after t.seats) i cleared).bytes ≡ 0)
    round-marks = after-round.marks-after fixed h y agrees then left

    -- "Records of free seats stay"
    pub round-spares : (i : ℕ) → seated h i ≡ false → get_or (after t.seats) i cleared ≡ get_or y.seats i cleared
    round-spares = after-round.spares-after fixed h y agrees then left

    -- "how many trucks are now unchoked", and these are at most five
    pub at-most-five : ((after told).value ≡ count seats (λ i. seated h i && not (on (get_or (after t.seats) i cleared).am_choking))) × ((after told).value ≤ 5)
    at-most-five =
        let g : after told ≡ told_of (taken (unchoked (unchokes fixed h))) (before told) =
        e.1 ∙ ap (λ (x : Yard). told_of (step round x).answer (before told)) f ∙ ap (λ (o : Outcome Said). told_of o (before told)) (answer-right round) in
        let v : (after told).value ≡ unchokes fixed h = ap (λ (x : Told). x.value) g in
        let k = after-round.five-after fixed h y agrees then left in
        (v ∙ k.0, rw v k.1)

    -- "On round number 0 the free place goes to the next seat, taken and interested, going round from the one after `last`, `last` itself coming last; to nobody if no
    -- seat is interested". `way` is how many seats are passed until there (yard_tables/specs/Rounds.antt)
    pub free-next : round_number h ≡ 0
        → ((free ≡ nobody) × ((i : ℕ) → i < seats → wanting h i ≡ false))
        ⊎ ((free < seats) × (wanting h free ≡ true)
        × ((j : ℕ) → j < seats → wanting h j ≡ true → way seats (last_place fixed h) free ≤ way seats (last_place fixed h) j))
    free-next = after-round.free-next fixed h y agrees then left

    -- "On the other rounds its holder keeps it"
    pub free-kept : (round_number h ≡ 0 → ⊥) → (free ≡ free_place fixed h) × ((after t.head).last ≡ last_place fixed h)
    free-kept f = (after-round.free-kept fixed h y agrees then left f, after-round.last-stays fixed h y agrees then left f)

    -- where it then last was: "`last` stays" if it goes to nobody, "else `last` becomes it"
    pub last-follows : round_number h ≡ 0 → ((free ≡ nobody) × ((after t.head).last ≡ last_place fixed h)) ⊎ ((free < seats) × ((after t.head).last ≡ free))
    last-follows = after-round.last-follows fixed h y agrees then left
