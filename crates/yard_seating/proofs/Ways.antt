-- The ways through each step, as the code goes them. Assumes nothing.
use Rattle.std.specs.Prelude.{Option, Some, None, Err, Ok}
use mathlib.Core.Path.{◌≡◌, refl, sym, ap, ap₂, ◌∙◌, subst}
use mathlib.Core.Bool.{Bool, true, false, not, cond, ◌&&◌, ◌||◌, or_assoc}
use mathlib.Core.List.{List, [], ◌∷◌}
use Prim.Native.Nat.{ℕ, zero, suc, ◌+◌, ◌*◌, ◌/◌, ◌-◌, ◌≤◌, ◌<◌}
use native.Mathlib.Omega.{arith}
use lib.Dec.{eqb, ltb, leb}
use lib.ListN.{length, replicate}
use lib.Seq.{sets}
use borrow.Author.Tests.{ltb-true, lt-ltb, le-ltb, le-leb, lt-leb, not-false, not-true}
use Rattle.refusal.specs.BigEndian.{bytes_of}
use Rattle.refusal.specs.Numbers.{seat, sizes, room, full, damaged, payload}
use Rattle.refusal.specs.Paper.{Outcome, taken, refused}
use Rattle.refusal.proofs.Cases.{pick_yes, pick_no, both, no_way}
use Rattle.bencode_writer.specs.Put.{Left, put_of}
use Rattle.bencode_writer.specs.Put.{left as put}
use Rattle.peer_wire.specs.Frames.{allowed, write_of}
use Rattle.peer_wire.specs.Message.{framed}
use Rattle.yard_tables.specs.Counting.{bit, each}
use Rattle.yard_tables.specs.Rows.{width}
use Rattle.yard_tables.specs.Seats.{on, cleared, arrived, counted, placed}
use Rattle.yard_tables.specs.Step.{if_taken, choke_frame, interest_frame}
use Rattle.yard_tables.specs.Tables.{wrote, seated, done, Yard, yard_of, Around, Turn, around, turn, paper, refuse, says, sizes_fit, sized, sitting}
use Rattle.yard_tables.specs.Seating.{emptied, start_of, at_zero_of, given_up, left, leave_of, seated_at, sit_of, mark_of}
use Rattle.yard_tables.proofs.Digits.{row_in, row-byte}
use Rattle.yard_tables.proofs.Sizing.{Fitting, fitting}
use Rattle.yard_tables.specs.declared.Head.{Head}
use Rattle.yard_tables.specs.declared.Seat.{Seat}
use Rattle.yard_tables.specs.declared.Stepped.{Stepped}
use Rattle.yard_tables.specs.declared.Answer.TheVariants.{Done, Seated, Wrote}
use Rattle.refusal.specs.declared.Refusal.{Refusal}
use Rattle.yard_tables.specs.Replies.{refusing, head_at_zero}
use Rattle.yard_seating.specs.Steps.{begun, empty_head, fault_at, marked_or, has_at, some_zero, lowered}
use Rattle.yard_seating.proofs.Passes.{lowered-each}

-- ---- the sizes and the seat

module _ (h : Head) (s : Seat) (i n R C : ℕ) (b : Bool) (eb : b ≡ sizes_fit h n R C) where
  pub fault-sizes : not b ≡ true → Some sizes ≡ fault_at h s i n R C
  fault-sizes e = pick_no (cond (ltb i n && on s.taken) None (Some seat)) (sizes_fit h n R C) (sym eb ∙ not-true b e) refl

  fit : not b ≡ false → sizes_fit h n R C ≡ true
  fit e = sym eb ∙ not-false b e

  pub fault-none : not b ≡ false → i < n → on s.taken ≡ true → None ≡ fault_at h s i n R C
  fault-none e l t = pick_yes (Some sizes) (sizes_fit h n R C) (fit e) (pick_yes (Some seat) (ltb i n && on s.taken) (ap₂ ◌&&◌ (lt-ltb i n l) t) refl)

-- what the fault says of a step that checks the sizes and the seat
module _ (h : Head) (s : Seat) (i n : ℕ) (rows holders : List ℕ) where
  abbrev X : Around
  X = around h s rows holders

  abbrev Fault : Option ℕ
  Fault = fault_at h s i n (length rows) (length holders)

  -- by whether the sizes fit, and whether a truck sits there
  abbrev fault_by : Bool → Bool → Option ℕ
  fault_by f g = cond f (cond g None (Some seat)) (Some sizes)

  abbrev checked_by : Bool → Bool → Turn → Turn
  checked_by f g t = cond f (cond g t (refuse seat X)) (refuse sizes X)

  refuses-by : (f g : Bool) (m : ℕ) (t : Turn) → Some m ≡ fault_by f g → refuse m X ≡ checked_by f g t
  refuses-by true true m t e = no_way (cc)
  refuses-by true false m t e = let z : m ≡ seat = cc in ap (λ (k : ℕ). refuse k X) z
  refuses-by false g m t e = let z : m ≡ sizes = cc in ap (λ (k : ℕ). refuse k X) z

  passes-by : (f g : Bool) (t : Turn) → None ≡ fault_by f g → (f ≡ true) × (g ≡ true) × (t ≡ checked_by f g t)
  passes-by true true t e = (refl, refl, refl)
  passes-by true false t e = no_way (cc)
  passes-by false g t e = no_way (cc)

  pub fault-refuses : (m : ℕ) (t : Turn) → Some m ≡ Fault → refuse m X ≡ sized n X (sitting i n X t)
  fault-refuses = refuses-by (sizes_fit h n (length rows) (length holders)) (ltb i n && on s.taken)

  pub fault-passes : (t : Turn) → None ≡ Fault → t ≡ sized n X (sitting i n X t)
  fault-passes t e = (passes-by (sizes_fit h n (length rows) (length holders)) (ltb i n && on s.taken) t e).2

  pub fault-seat : None ≡ Fault → (sizes_fit h n (length rows) (length holders) ≡ true) × (i < n)
  fault-seat e =
      let p = passes-by (sizes_fit h n (length rows) (length holders)) (ltb i n && on s.taken) (refuse sizes X) e in
      (p.0, ltb-true i n (both (ltb i n) (on s.taken) p.1).0)

  -- our own marks
  module _ (f : Seat → Seat) (space : ℕ) (r : Stepped) where
    pub mark-refused : (m : ℕ) → Some m ≡ Fault → r ≡ refusing h s m → turn r rows holders ≡ mark_of f space i n X
    unfolding mark_of
    mark-refused m e er = ap (λ (a : Stepped). turn a rows holders) er ∙ fault-refuses m (cond (ltb space 5) (refuse room X) (says (wrote 5) (around h (f s) rows holders))) e

    pub mark-way : None ≡ Fault → r ≡ marked_or h s (f s) space → turn r rows holders ≡ mark_of f space i n X
    unfolding mark_of
    mark-way e er =
        ap (λ (a : Stepped). turn a rows holders) er
        ∙ by (ltb space 5)
        ∙ fault-passes (cond (ltb space 5) (refuse room X) (says (wrote 5) (around h (f s) rows holders))) e
      where
        by : (b : Bool) → turn (cond b (refusing h s room) (record { head = h; seat = f s; answer = Ok (Wrote 5) })) rows holders ≡ cond b (refuse room X) (says (wrote 5) (around h (f s) rows holders))
        by true = refl
        by false = refl

-- the step of a mark in its two ways
module _ (h : Head) (s t : Seat) (space : ℕ) (r : Stepped) where
  pub mark-room : space < 5 → r ≡ refusing h s room → r ≡ marked_or h s t space
  mark-room l e = pick_yes (record { head = h; seat = t; answer = (Ok (Wrote 5)) }) (ltb space 5) (lt-ltb space 5 l) e

  pub mark-done : 5 ≤ space → r ≡ record { head = h; seat = t; answer = (Ok (Wrote 5)) } → r ≡ marked_or h s t space
  mark-done l e = pick_no (refusing h s room) (ltb space 5) (le-ltb space 5 l) e

-- a refusal writes nothing
pub refused-writes : (h : Head) (s : Seat) (k : ℕ) (r : Stepped) (o bytes : List ℕ) → r ≡ refusing h s k → o ≡ sets o 0 (if_taken (paper r.answer) bytes)
refused-writes h s k r o bytes e = ap (λ (a : Stepped). sets o 0 (if_taken (paper a.answer) bytes)) (sym e)

allowed-mark : (id : ℕ) → id < 4 → allowed id 1 ≡ true
allowed-mark zero l = refl
allowed-mark (suc zero) l = refl
allowed-mark (suc (suc zero)) l = refl
allowed-mark (suc (suc (suc zero))) l = refl
allowed-mark (suc (suc (suc (suc id)))) l = absurd (omega arith)

-- a frame of no payload, where there is room
pub plain-writes : (id : ℕ) (o o' : List ℕ) (a : Outcome ℕ) → id < 4 → 5 ≤ length o → put a o' ≡ write_of (id ∷ []) o → o' ≡ sets o 0 (framed (id ∷ []))
unfolding write_of put_of bytes_of
plain-writes id o o' a l m e =
    let w : List ℕ = framed (id ∷ []) in
    let good : Left = put (taken 5) (sets o 0 w) in
    let f : good ≡ write_of (id ∷ []) o = pick_yes (put (refused payload 0) o) (allowed id 1) (allowed-mark id l) (pick_yes (put (refused room 0) o) (leb 5 (length o)) (le-leb 5 (length o) m) refl) in
    ap (λ (x : Left). x.out) (e ∙ sym f)

pub mark-writes : (h : Head) (t : Seat) (r : Stepped) (o o' bytes : List ℕ) → r ≡ record { head = h; seat = t; answer = (Ok (Wrote 5)) } → o' ≡ sets o 0 bytes → o' ≡ sets o 0 (if_taken (paper r.answer) bytes)
mark-writes h t r o o' bytes e f = f ∙ ap (λ (a : Stepped). sets o 0 (if_taken (paper a.answer) bytes)) (sym e)

-- the frames of our marks
pub choke-frame : (on : Bool) (id : ℕ) → id ≡ cond on 0 1 → framed (id ∷ []) ≡ choke_frame on
choke-frame true id e = rw e
choke-frame false id e = rw e

pub interest-frame : (on : Bool) (id : ℕ) → id ≡ cond on 2 3 → framed (id ∷ []) ≡ interest_frame on
interest-frame true id e = rw e
interest-frame false id e = rw e

-- ---- what the sizes say of the rows and the counts

module _ (h : Head) (n R C : ℕ) (e : sizes_fit h n R C ≡ true) where
  pub some-piece : 1 ≤ C
  some-piece = let f : Fitting h n R C = fitting h n R C e in omega (arith, f.some, f.counts)

  pub row_inside : (i w : ℕ) → i < n → w ≡ width h.pieces → i * w + w ≤ R
  row_inside i w l ew = omega (arith, row_in i n w l, (fitting h n R C e).row, ap (λ (q : ℕ). n * q) ew)

  pub few-seats : n ≤ 2000
  few-seats = (fitting h n R C e).seats

  pub some-seats : (1 ≤ n) × (n ≤ 2000)
  some-seats = ((fitting h n R C e).seat, few-seats)

  pub row_room : (i w : ℕ) → i < n → w ≡ width h.pieces → (i * w + (C + 7) / 8 ≤ R) × (C ≤ C) × (C ≤ 65536)
  row_room i w l ew =
      let f : Fitting h n R C = fitting h n R C e in
      (omega (arith, row_inside i w l ew, f.counts), omega arith, omega (arith, f.counts, f.few))

  pub row-byte-in : (i p w : ℕ) → i < n → p < C → w ≡ width h.pieces → i * w + p / 8 < R
  row-byte-in i p w m l ew =
      let f : Fitting h n R C = fitting h n R C e in
      let k : i * w + p / 8 < n * w = subst (λ (q : ℕ). i * q + p / 8 < n * q) (sym ew) (row-byte i n h.pieces p m (omega (arith, f.counts))) in
      omega (arith, f.row, ap (λ (q : ℕ). n * q) ew)

-- ---- sitting down

module _ (h : Head) (s : Seat) (i n : ℕ) (rows holders : List ℕ) (b : Bool) (eb : b ≡ sizes_fit h n (length rows) (length holders)) (r : Stepped) where
  abbrev Y : Around
  Y = around h s rows holders

  abbrev Sits : Turn
  Sits = cond (leb n i) (refuse full Y) (cond (leb n h.taken) (refuse damaged Y) (says (seated i) (seated_at i Y)))

  pub sit-sizes : not b ≡ true → r ≡ refusing h s sizes → turn r rows holders ≡ sit_of i n Y
  unfolding sit_of
  sit-sizes e er = pick_no Sits (sizes_fit h n (length rows) (length holders)) (sym eb ∙ not-true b e) (ap (λ (a : Stepped). turn a rows holders) er)

  pub sit-full : not b ≡ false → n ≤ i → r ≡ refusing h s full → turn r rows holders ≡ sit_of i n Y
  unfolding sit_of
  sit-full e l er =
      pick_yes (refuse sizes Y) (sizes_fit h n (length rows) (length holders)) (sym eb ∙ not-false b e)
      (pick_yes (cond (leb n h.taken) (refuse damaged Y) (says (seated i) (seated_at i Y))) (leb n i) (le-leb n i l) (ap (λ (a : Stepped). turn a rows holders) er))

  pub sit-damaged : not b ≡ false → i < n → n ≤ h.taken → r ≡ refusing h s damaged → turn r rows holders ≡ sit_of i n Y
  unfolding sit_of
  sit-damaged e l m er =
      pick_yes (refuse sizes Y) (sizes_fit h n (length rows) (length holders)) (sym eb ∙ not-false b e)
      (pick_no (refuse full Y) (leb n i) (lt-leb n i l)
      (pick_yes (says (seated i) (seated_at i Y)) (leb n h.taken) (le-leb n h.taken m) (ap (λ (a : Stepped). turn a rows holders) er)))

  pub sit-done : (w : ℕ) (rows' : List ℕ) → not b ≡ false → i < n → h.taken < n → w ≡ width h.pieces → rows' ≡ sets rows (i * w) (replicate w 0)
      → r ≡ record { head = counted (h.taken + 1) h.complete h; seat = arrived; answer = (Ok (Seated i)) } → turn r rows' holders ≡ sit_of i n Y
  unfolding sit_of seated_at
  sit-done w rows' e l m ew e' er =
      pick_yes (refuse sizes Y) (sizes_fit h n (length rows) (length holders)) (sym eb ∙ not-false b e)
      (pick_no (refuse full Y) (leb n i) (lt-leb n i l)
      (pick_no (refuse damaged Y) (leb n h.taken) (lt-leb n h.taken m)
      (ap₂ (λ (a : Stepped) (x : List ℕ). turn a x holders) er (e' ∙ ap (λ (q : ℕ). sets rows (i * q) (replicate q 0)) ew))))

-- ---- leaving

module _ (h : Head) (s : Seat) (i n : ℕ) (rows holders : List ℕ) (r : Stepped) where
  abbrev Fault_of : Option ℕ
  Fault_of = fault_at h s i n (length rows) (length holders)

  abbrev Z : Around
  Z = around h s rows holders

  abbrev Leaves : Turn
  Leaves = cond (at_zero_of i Z) (refuse damaged Z) (says done (left i Z))

  pub leave-fault : (m : ℕ) → Some m ≡ Fault_of → r ≡ refusing h s m → turn r rows holders ≡ leave_of i n Z
  unfolding leave_of
  leave-fault m z er = ap (λ (a : Stepped). turn a rows holders) er ∙ fault-refuses h s i n rows holders m Leaves z

  -- what is left of a head once the truck of s has gone from it
  abbrev gone : Head → Stepped
  gone g = record { head = counted (g.taken - 1) (g.complete - bit (eqb s.held g.pieces)) g; seat = cleared; answer = (Ok Done) }

  -- the piece counts' part of the check, in the code's words
  zero_is : (w p : ℕ) → None ≡ Fault_of → w ≡ width h.pieces → p ≡ length holders → at_zero_of i Z ≡ (head_at_zero h s || some_zero rows (i * w) holders p)
  unfolding at_zero_of
  zero_is w p z ew ep =
      let f : Fitting h n (length rows) (length holders) = fitting h n (length rows) (length holders) (fault-seat h s i n rows holders z).0 in
      sym (or_assoc (eqb h.taken 0) (eqb s.held h.pieces && eqb h.complete 0) (some_zero rows (i * width h.pieces) holders h.pieces))
      ∙ ap₂ (λ (a m : ℕ). head_at_zero h s || some_zero rows (i * a) holders m) (sym ew) (sym (ep ∙ f.counts))

  pub leave-head : (x : Bool) → None ≡ Fault_of → x ≡ head_at_zero h s → x ≡ true → r ≡ refusing h s damaged → turn r rows holders ≡ leave_of i n Z
  unfolding leave_of
  leave-head x z ex t er =
      pick_yes (says done (left i Z)) (at_zero_of i Z)
      (zero_is (width h.pieces) (length holders) z refl refl ∙ ap (λ (a : Bool). a || some_zero rows (i * width h.pieces) holders (length holders)) (sym ex ∙ t))
      (ap (λ (a : Stepped). turn a rows holders) er)
      ∙ fault-passes h s i n rows holders Leaves z

  pub leave-piece : (w p : ℕ) (x y : Bool) → None ≡ Fault_of → w ≡ width h.pieces → p ≡ length holders → x ≡ head_at_zero h s → x ≡ false → y ≡ some_zero rows (i * w) holders p → y ≡ true
      → r ≡ refusing h s damaged → turn r rows holders ≡ leave_of i n Z
  unfolding leave_of
  leave-piece w p x y z ew ep ex fx ey ty er =
      pick_yes (says done (left i Z)) (at_zero_of i Z)
      (zero_is w p z ew ep ∙ ap₂ ◌||◌ (sym ex ∙ fx) (sym ey ∙ ty))
      (ap (λ (a : Stepped). turn a rows holders) er)
      ∙ fault-passes h s i n rows holders Leaves z

  pub leave-done : (w p : ℕ) (x y : Bool) (g : Head) (rows' holders' : List ℕ) → None ≡ Fault_of → w ≡ width h.pieces → p ≡ length holders → x ≡ head_at_zero h s → x ≡ false → y ≡ some_zero rows (i * w) holders p → y ≡ false
      → holders' ≡ lowered rows (i * w) p holders → rows' ≡ sets rows (i * w) (replicate w 0) → g ≡ given_up i h
      → r ≡ gone g → turn r rows' holders' ≡ leave_of i n Z
  unfolding leave_of left
  leave-done w p x y g rows' holders' z ew ep ex fx ey fy eh e' eg er =
      pick_no (refuse damaged Z) (at_zero_of i Z)
      (zero_is w p z ew ep ∙ ap₂ ◌||◌ (sym ex ∙ fx) (sym ey ∙ fy))
      (ap (λ (a : Stepped). turn a rows' holders') (er ∙ ap gone eg)
      ∙ ap₂ (λ (a c : List ℕ). turn (gone (given_up i h)) a c)
      (e' ∙ ap (λ (q : ℕ). sets rows (i * q) (replicate q 0)) ew)
      (eh ∙ lowered-each rows (i * w) p holders (sym ep) ∙ ap (λ (q : ℕ). each (λ c m. m - bit (has_at rows (i * q) c)) holders) ew))
      ∙ fault-passes h s i n rows holders Leaves z

-- ---- starting

module _ (e : Head) (n : ℕ) (rows holders : List ℕ) (pieces piece_length_of last_length_of : ℕ) (is : e ≡ empty_head pieces piece_length_of last_length_of)
    (b : Bool) (eb : b ≡ sizes_fit e n (length rows) (length holders)) (h : Head) (seats : List Seat) (en : length seats ≡ n) where
  abbrev B : Yard
  B = yard_of h seats rows holders

  abbrev E : Yard
  E = emptied pieces piece_length_of last_length_of B

  -- where the free place last was is no size
  fits-is : sizes_fit E.head (length seats) (length rows) (length holders) ≡ b
  unfolding sizes_fit
  fits-is = ap₂ (λ (a : Head) (m : ℕ). sizes_fit a m (length rows) (length holders)) (sym is) en ∙ sym eb

  pub start-refused : (r : Refusal) → not b ≡ true → r ≡ record { place = 0; number = sizes } → begun (Err r) h seats rows holders ≡ start_of pieces piece_length_of last_length_of B
  unfolding start_of
  start-refused r t er =
      pick_no (record { answer = taken done; yard = E }) (sizes_fit E.head (length seats) (length rows) (length holders)) (fits-is ∙ not-true b t)
      (ap (λ (a : Refusal). begun (Err a) h seats rows holders) er)

  pub start-done : (g : Head) (rows' holders' : List ℕ) → not b ≡ false → rows' ≡ replicate (length rows) 0 → holders' ≡ replicate (length holders) 0
      → g ≡ placed e.round e.free (n - 1) e → begun (Ok g) h seats rows' holders' ≡ start_of pieces piece_length_of last_length_of B
  unfolding start_of
  start-done g rows' holders' t e₁ e₂ eg =
      pick_yes (record { answer = refused sizes 0; yard = B }) (sizes_fit E.head (length seats) (length rows) (length holders)) (fits-is ∙ not-false b t)
      (ap (λ (a : Head). begun (Ok a) h seats rows' holders') eg
      ∙ ap₂ (λ (a : Head) (m : ℕ). record { answer = taken done; yard = yard_of (placed a.round a.free (m - 1) a) (replicate (length seats) cleared) rows' holders' }) is (sym en)
      ∙ ap₂ (λ (a c : List ℕ). record { answer = taken done; yard = yard_of E.head (replicate (length seats) cleared) a c }) e₁ e₂)
