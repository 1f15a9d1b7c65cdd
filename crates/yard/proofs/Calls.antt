-- From a step at one seat to a call on the whole yard, and to what C is told of it. Assumes nothing.
use Rattle.std.specs.Prelude.{Option, Some, None, Result, Ok, Err}
use Rattle.refusal.specs.declared.Refusal.{Refusal}
use mathlib.Core.Path.{◌≡◌, refl, sym, ap, ◌∙◌}
use mathlib.Core.Bool.{Bool, true, false, cond}
use mathlib.Core.List.{List}
use Prim.Native.Nat.{ℕ, ◌≤◌, min}
use native.Mathlib.Omega.{arith}
use borrow.Author.Tests.{leb-true}
use lib.Dec.{leb}
use lib.ListN.{length, get_or, set, replicate}
use lib.Seq.{sets}
use Rattle.yard_tables.specs.Seats.{cleared, we_choke, we_want, counted}
use Rattle.refusal.specs.Paper.{Outcome, taken, refused}
use Rattle.yard_tables.specs.Tables.{Yard, Said, listed, unchoked, Around, Turn, Out, paper, around, turn, refuse, says, sizes_fit, yard_of, out, at_seat}
use Rattle.yard_tables.specs.Counting.{each}
use Rattle.yard_tables.specs.Frames.{feed_of}
use Rattle.yard_tables.specs.Ranks.{ranked, free_of, turned, mark_step}
use Rattle.yard_tables.specs.Rounds.{misplaced}
use Rattle.yard_tables.specs.Seating.{start_of, lowest_free, sit_of, leave_of, mark_of}
use Rattle.yard_tables.specs.Looks.{page_of, lines_of, scarcest_of, seat_of, has_of, count_of}
use Rattle.yard_tables.specs.Step.{Call, start, sit, leave, feed, choke, interest, missing, scarcest, look, has, count, round, step, choke_frame, interest_frame, if_taken, writes, written}
use Rattle.refusal.specs.Numbers.{seat, sizes, damaged}
use Rattle.refusal.proofs.Cases.{no_way}
use Rattle.refusal.specs.Limits.{most_seats}
use Rattle.yard_tables.proofs.Sizing.{fitting}
use Rattle.yard_tables.proofs.Turning.{round-turns}
use Rattle.yard.proofs.Heard.{head-same}
use Rattle.yard.proofs.Numbered.{has-numbered, count-numbered}
use Rattle.torrent_blocks.specs.declared.PieceNumber.{PieceNumber}
use Rattle.torrent_blocks.specs.Numberings.{widest}
use Rattle.yard_tables.specs.declared.Page.{Page}
use Rattle.yard_scans.specs.Pages.{as_lines}
use Rattle.yard_scans.proofs.Passes.{lines_are}
use Rattle.yard.specs.Pages.{page_fault}
use Rattle.yard.specs.Rounds.{round_fault}
use Rattle.yard_tables.specs.declared.Head.{Head}
use Rattle.yard_tables.specs.declared.Seat.{Seat}
use Rattle.yard_tables.specs.declared.Stepped.{Stepped}
use Rattle.yard_tables.specs.declared.Answer.{Answer}
use Rattle.yard_tables.specs.declared.Answer.TheVariants.{Done, Listed, Unchoked}
use Rattle.yard_tables.specs.declared.rank.Ranking.{Ranking}
use Rattle.yard_tables.specs.declared.round.Turned.{Turned}
use Rattle.yard_seating.specs.Steps.{begun}
use Rattle.yard_telling.specs.Telling.{code_of, told_of, shown_of, Steps, Tells, Looks, Shows}
use Rattle.yard_telling.specs.declared.Told.{Told}

-- ---- from what a step answers to what C is told

module _ (o : Out) (a : Result Answer Refusal) (z : Yard) (e : record { answer = paper a; yard = z } ≡ o) where
  stepped : (n : ℕ) → n ≡ code_of (paper a) → Steps o n z
  stepped n k = (k ∙ ap (λ (x : Out). code_of x.answer) e, ap (λ (x : Out). x.yard) e)

  told : (was t : Told) (n : ℕ) → t ≡ told_of (paper a) was → n ≡ code_of (paper a) → Tells o was n t z
  told was t n l k = (k ∙ ap (λ (x : Out). code_of x.answer) e, l ∙ ap (λ (x : Out). told_of x.answer was) e, ap (λ (x : Out). x.yard) e)

module _ (o : Outcome Said) (a : Result Answer Refusal) (e : paper a ≡ o) where
  looked : (was t : Told) (n : ℕ) → t ≡ told_of (paper a) was → n ≡ code_of (paper a) → Looks o was n t
  looked was t n l k = (k ∙ ap code_of e, l ∙ ap (λ (x : Outcome Said). told_of x was) e)

  showed : (was t : Seat) (n : ℕ) → t ≡ shown_of (paper a) was → n ≡ code_of (paper a) → Shows o was n t
  showed was t n l k = (k ∙ ap code_of e, l ∙ ap (λ (x : Outcome Said). shown_of x was) e)

-- ---- each call's contract, of the tables at entry. `NAME-is` takes what the proof of the call has: the other parameters, what the lent slices hold at exit, what
-- each function that it calls answers, and what that function's contract says, in the order of the calls
module _ (h : Head) (seats : List Seat) (rows holders : List ℕ) where
  abbrev Y : Yard
  Y = yard_of h seats rows holders

  put_back : (i : ℕ) (f : ℕ → Around → Turn) (s : Seat) (r : Stepped) (seats' : List Seat) (rows' holders' : List ℕ) → s ≡ get_or seats i cleared
      → turn r rows' holders' ≡ f (length seats) (around h s rows holders) → seats' ≡ set seats i r.seat
      → out r.answer r.head seats' rows' holders' ≡ at_seat i f Y
  put_back i f s r seats' rows' holders' e t b =
      ap (λ (l : List Seat). out r.answer r.head l rows' holders') b
      ∙ ap {B = Out} (λ (x : Turn). record { answer = x.answer; yard = yard_of x.after.head (set seats i x.after.seat) x.after.rows x.after.holders })
      (t ∙ ap (λ (x : Seat). f (length seats) (around h x rows holders)) e)

  -- a start that is not refused clears the seats
  pub start-done : (p l m : ℕ) (seats' : List Seat) (rows' holders' : List ℕ) (g : Head)
      → ((ss : List Seat) → length ss ≡ length seats → begun (Ok g) h ss rows' holders' ≡ start_of p l m (yard_of h ss rows holders))
      → seats' ≡ replicate (length seats) cleared → Steps (step (start p l m) Y) 0 (yard_of g seats' rows' holders')
  unfolding step
  start-done p l m seats' rows' holders' g e b =
      stepped (start_of p l m Y) (Ok Done) (yard_of g seats' rows' holders') (ap (λ (x : List Seat). out (Ok Done) g x rows' holders') b ∙ e seats refl) 0 refl

  pub start-refused : (p l m : ℕ) (rows' holders' : List ℕ) (r : Refusal)
      → ((ss : List Seat) → length ss ≡ length seats → begun (Err r) h ss rows' holders' ≡ start_of p l m (yard_of h ss rows holders))
      → Steps (step (start p l m) Y) r.number (yard_of h seats rows' holders')
  unfolding step
  start-refused p l m rows' holders' r e = stepped (start_of p l m Y) (Err r) (yard_of h seats rows' holders') (e seats refl) r.number refl

  -- the head and the seats that a start leaves
  abbrev head_left : Result Head Refusal → Head
  head_left (Ok g) = g
  head_left (Err r) = h

  abbrev seats_left : Result Head Refusal → List Seat
  seats_left (Ok g) = replicate (length seats) cleared
  seats_left (Err r) = seats

  pub start_is : (p l m : ℕ) (seats' : List Seat) (rows' holders' : List ℕ) (r : Result Head Refusal) (n : ℕ)
      → ((ss : List Seat) → length ss ≡ length seats → begun r h ss rows' holders' ≡ start_of p l m (yard_of h ss rows holders))
      → seats' ≡ seats_left r → n ≡ code_of (begun r h seats rows' holders').answer
      → Steps (step (start p l m) Y) n (yard_of (head_left r) seats' rows' holders')
  start_is p l m seats' rows' holders' (Ok g) n e b k = let (a, y) = start-done p l m seats' rows' holders' g e b in (k ∙ a, y)
  start_is p l m seats' rows' holders' (Err r) n e b k =
      let (a, y) = start-refused p l m rows' holders' r e in (k ∙ a, ap (λ (x : List Seat). yard_of h x rows' holders') b ∙ y)

  pub sit-is : (was : Told) (seats' : List Seat) (rows' : List ℕ) (i : ℕ) (s : Seat) (r : Stepped) (t : Told) (n : ℕ)
      → i ≡ lowest_free seats → s ≡ get_or seats i cleared → turn r rows' holders ≡ sit_of i (length seats) (around h s rows holders)
      → seats' ≡ set seats i r.seat → t ≡ told_of (paper r.answer) was → n ≡ code_of (paper r.answer)
      → Tells (step sit Y) was n t (yard_of r.head seats' rows' holders)
  unfolding step
  sit-is was seats' rows' i s r t n l e f b g k =
      told (step sit Y) r.answer (yard_of r.head seats' rows' holders) (put_back i (sit_of i) s r seats' rows' holders e f b ∙ ap (λ (j : ℕ). at_seat j (sit_of j) Y) l) was t n g k

  pub leave-is : (i : ℕ) (seats' : List Seat) (rows' holders' : List ℕ) (s : Seat) (r : Stepped) (n : ℕ)
      → s ≡ get_or seats i cleared → turn r rows' holders' ≡ leave_of i (length seats) (around h s rows holders)
      → seats' ≡ set seats i r.seat → n ≡ code_of (paper r.answer)
      → Steps (step (leave i) Y) n (yard_of r.head seats' rows' holders')
  unfolding step
  leave-is i seats' rows' holders' s r n e f b k =
      stepped (step (leave i) Y) r.answer (yard_of r.head seats' rows' holders') (put_back i (leave_of i) s r seats' rows' holders' e f b) n k

  -- a frame's call puts back the seats complete alone
  pub feed-is : (i : ℕ) (bytes : List ℕ) (was : Told) (seats' : List Seat) (rows' holders' : List ℕ) (s : Seat) (r : Stepped) (h' : Head) (t : Told) (n : ℕ)
      → s ≡ get_or seats i cleared → turn r rows' holders' ≡ feed_of i bytes (length seats) (around h s rows holders)
      → seats' ≡ set seats i r.seat → h' ≡ counted h.taken r.head.complete h
      → t ≡ told_of (paper r.answer) was → n ≡ code_of (paper r.answer)
      → Tells (step (feed i bytes) Y) was n t (yard_of h' seats' rows' holders')
  unfolding step
  feed-is i bytes was seats' rows' holders' s r h' t n e f b c g k =
      let u : r.head ≡ (feed_of i bytes (length seats) (around h s rows holders)).after.head = ap (λ (x : Turn). x.after.head) f in
      told (step (feed i bytes) Y) r.answer (yard_of h' seats' rows' holders')
      (ap (λ (x : Head). out r.answer x seats' rows' holders')
      (c ∙ ap (λ (x : Head). counted h.taken x.complete h) u ∙ (head-same (length seats) i (around h s rows holders) bytes).head ∙ sym u)
      ∙ put_back i (feed_of i bytes) s r seats' rows' holders' e f b)
      was t n g k

  -- our own marks: of the call c, which puts the frame w where it is taken
  marked : (c : Call) (g : Seat → Seat) (i space : ℕ) (w frame frame' : List ℕ) (s : Seat) (r : Stepped) (seats' : List Seat) (n : ℕ)
      → step c Y ≡ at_seat i (mark_of g space i) Y → writes c Y ≡ w
      → s ≡ get_or seats i cleared → turn r rows holders ≡ mark_of g space i (length seats) (around h s rows holders)
      → frame' ≡ sets frame 0 (if_taken (paper r.answer) w) → seats' ≡ set seats i r.seat → n ≡ code_of (paper r.answer)
      → Steps (step c Y) n (yard_of r.head seats' rows holders) × (frame' ≡ sets frame 0 (written c Y))
  marked c g i space w frame frame' s r seats' n d p e f q b k =
      let o = put_back i (mark_of g space i) s r seats' rows holders e f b ∙ sym d in (
        stepped (step c Y) r.answer (yard_of r.head seats' rows holders) o n k,
        q ∙ ap (λ (x : Out). sets frame 0 (if_taken x.answer w)) o ∙ ap (λ (l : List ℕ). sets frame 0 (if_taken (step c Y).answer l)) (sym p),
      )

  pub choke-is : (i : ℕ) (on : Bool) (frame : List ℕ) (seats' : List Seat) (frame' : List ℕ) (s : Seat) (r : Stepped) (n : ℕ)
      → s ≡ get_or seats i cleared → turn r rows holders ≡ mark_of (we_choke on) (length frame) i (length seats) (around h s rows holders)
      → frame' ≡ sets frame 0 (if_taken (paper r.answer) (choke_frame on)) → seats' ≡ set seats i r.seat → n ≡ code_of (paper r.answer)
      → Steps (step (choke i on (length frame)) Y) n (yard_of r.head seats' rows holders) × (frame' ≡ sets frame 0 (written (choke i on (length frame)) Y))
  unfolding step
  choke-is i on frame seats' frame' s r n = marked (choke i on (length frame)) (we_choke on) i (length frame) (choke_frame on) frame frame' s r seats' n refl refl

  pub interest-is : (i : ℕ) (on : Bool) (frame : List ℕ) (seats' : List Seat) (frame' : List ℕ) (s : Seat) (r : Stepped) (n : ℕ)
      → s ≡ get_or seats i cleared → turn r rows holders ≡ mark_of (we_want on) (length frame) i (length seats) (around h s rows holders)
      → frame' ≡ sets frame 0 (if_taken (paper r.answer) (interest_frame on)) → seats' ≡ set seats i r.seat → n ≡ code_of (paper r.answer)
      → Steps (step (interest i on (length frame)) Y) n (yard_of r.head seats' rows holders) × (frame' ≡ sets frame 0 (written (interest i on (length frame)) Y))
  unfolding step
  interest-is i on frame seats' frame' s r n = marked (interest i on (length frame)) (we_want on) i (length frame) (interest_frame on) frame frame' s r seats' n refl refl

  -- a round that is refused, by whether the sizes fit and whether the free place is misplaced
  abbrev no : ℕ → Out
  no k = record { answer = refused k 0; yard = Y }

  refused-by : (f m : Bool) (k : ℕ) (z : Out) → Some k ≡ cond f (cond m (Some damaged) None) (Some sizes) → no k ≡ cond f (cond m (no damaged) z) (no sizes)
  refused-by true true k z e = let q : k ≡ damaged = cc in ap no q
  refused-by true false k z e = no_way (cc)
  refused-by false m k z e = let q : k ≡ sizes = cc in ap no q

  done-by : (f m : Bool) (z : Out) → None ≡ cond f (cond m (Some damaged) None) (Some sizes) → z ≡ cond f (cond m (no damaged) z) (no sizes)
  done-by true true z e = no_way (cc)
  done-by true false z e = refl
  done-by false m z e = no_way (cc)

  pub round-refused : (was : Told) (k : ℕ) → Some k ≡ round_fault h (length seats) (length rows) (length holders) → Tells (step round Y) was k was Y
  unfolding step
  round-refused was k e =
      told (step round Y) (Err (record { place = 0; number = k })) Y
      (refused-by (sizes_fit h (length seats) (length rows) (length holders)) (misplaced h (length seats)) k _ e ∙ round-turns h seats rows holders)
      was was k refl refl

  pub round-done : (was : Told) (seats' : List Seat) (ranking : Ranking) (free : ℕ) (holder : Seat) (r : Turned) (t : Told) (n : ℕ)
      → None ≡ round_fault h (length seats) (length rows) (length holders) → ranking ≡ ranked h.last seats → free ≡ free_of h ranking → holder ≡ get_or seats free cleared
      → r ≡ turned h ranking free holder → seats' ≡ each (λ i s. mark_step r.marks s i) seats
      → t ≡ told_of (taken (unchoked r.unchoked)) was → n ≡ code_of (taken (unchoked r.unchoked))
      → Tells (step round Y) was n t (yard_of r.head seats' rows holders)
  unfolding step
  round-done was seats' ranking free holder r t n e k f s m b g c =
      let left : Turned → Out = λ (x : Turned). out (Ok (Unchoked x.unchoked)) x.head (each (λ i s. mark_step x.marks s i) seats) rows holders in
      told (step round Y) (Ok (Unchoked r.unchoked)) (yard_of r.head seats' rows holders)
      (ap (λ (l : List Seat). out (Ok (Unchoked r.unchoked)) r.head l rows holders) b
      ∙ ap left
      (m
      ∙ ap (λ (x : Seat). turned h ranking free x) s
      ∙ ap (λ (j : ℕ). turned h ranking j (get_or seats j cleared)) f
      ∙ ap (λ (x : Ranking). turned h x (free_of h x) (get_or seats (free_of h x) cleared)) k)
      ∙ done-by (sizes_fit h (length seats) (length rows) (length holders)) (misplaced h (length seats)) _ e
      ∙ round-turns h seats rows holders)
      was t n g c

  -- ---- looks
  pub scarcest-is : (was : Told) (a : Result Answer Refusal) (t : Told) (n : ℕ) → ((s : Seat) → paper a ≡ (scarcest_of (length seats) (around h s rows holders)).answer)
      → t ≡ told_of (paper a) was → n ≡ code_of (paper a) → Looks (step scarcest Y).answer was n t × (h ≡ h)
  unfolding step
  scarcest-is was a t n e g k = (looked (step scarcest Y).answer a (e (get_or seats 0 cleared)) was t n g k, refl)

  pub look_is : (i : ℕ) (was : Seat) (s : Seat) (a : Result Answer Refusal) (t : Seat) (n : ℕ) → s ≡ get_or seats i cleared → paper a ≡ (seat_of i (length seats) (around h s rows holders)).answer
      → t ≡ shown_of (paper a) was → n ≡ code_of (paper a) → Shows (step (look i) Y).answer was n t × (h ≡ h)
  unfolding step
  look_is i was s a t n e f g k = (showed (step (look i) Y).answer a (f ∙ ap (λ (x : Seat). (seat_of i (length seats) (around h x rows holders)).answer) e) was t n g k, refl)

  pub has-is : (i p : ℕ) (was : Told) (q : PieceNumber) (a : Result Answer Refusal) (t : Told) (n : ℕ)
      → q.0 ≡ min p widest → ((s : Seat) → paper a ≡ (has_of i q.0 (length seats) (around h s rows holders)).answer)
      → t ≡ told_of (paper a) was → n ≡ code_of (paper a) → Looks (step (has i p) Y).answer was n t × (h ≡ h)
  unfolding step
  has-is i p was q a t n c e g k = (looked (step (has i p) Y).answer a (e (get_or seats i cleared) ∙ has-numbered (length seats) (around h (get_or seats i cleared) rows holders) i p c) was t n g k, refl)

  pub count-is : (p : ℕ) (was : Told) (q : PieceNumber) (a : Result Answer Refusal) (t : Told) (n : ℕ)
      → q.0 ≡ min p widest → ((s : Seat) → paper a ≡ (count_of q.0 (length seats) (around h s rows holders)).answer)
      → t ≡ told_of (paper a) was → n ≡ code_of (paper a) → Looks (step (count p) Y).answer was n t × (h ≡ h)
  unfolding step
  count-is p was q a t n c e g k = (looked (step (count p) Y).answer a (e (get_or seats 0 cleared) ∙ count-numbered (length seats) (around h (get_or seats 0 cleared) rows holders) p c) was t n g k, refl)

-- ---- the missing list: t where the sizes fit, u where the first seat is one of them or just past them
module _ (x : Around) where
  abbrev said_by : Bool → Bool → Turn → Turn
  said_by t u y = cond t (cond u y (refuse seat x)) (refuse sizes x)

  abbrev fault_by : Bool → Bool → Option ℕ
  fault_by t u = cond t (cond u None (Some seat)) (Some sizes)

  faulty : (t u : Bool) (y : Turn) (k : ℕ) → Some k ≡ fault_by t u → (said_by t u y).answer ≡ refused k 0
  faulty true true y k e = no_way (cc)
  faulty true false y k e = let q : k ≡ seat = cc in ap {B = Outcome Said} (λ (m : ℕ). refused m 0) (sym q)
  faulty false u y k e = let q : k ≡ sizes = cc in ap {B = Outcome Said} (λ (m : ℕ). refused m 0) (sym q)

  faultless : (t u : Bool) (y : Turn) → None ≡ fault_by t u → (t ≡ true) × (u ≡ true) × (said_by t u y ≡ y)
  faultless true true y e = (refl, refl, refl)
  faultless true false y e = no_way (cc)
  faultless false u y e = no_way (cc)

module _ (h : Head) (seats : List Seat) (rows holders : List ℕ) (first : ℕ) (page : List ℕ) where
  abbrev T : Bool
  T = sizes_fit h (length seats) (length rows) (length holders)

  abbrev U : Bool
  U = leb first (length seats)

  abbrev X : Around
  X = around h (get_or seats 0 cleared) rows holders

  abbrev S : ℕ
  S = length page

  abbrev M : Out
  M = step (missing first S) (yard_of h seats rows holders)

  abbrev Listed_of : Turn
  Listed_of = says (listed (page_of h.pieces first S seats)) X

  fits : T ≡ true → U ≡ true → as_lines (lines_of h.pieces first S seats) ≡ lines_of h.pieces first S seats
  fits t u = lines_are h.pieces first S seats (leb-true first (length seats) u) (few (fitting h (length seats) (length rows) (length holders) t).seats)
    where
      few : length seats ≤ most_seats → length seats ≤ 4294967296
      few l = omega arith

  pub missing-refused : (was : Told) (k : ℕ) → Some k ≡ page_fault h (length seats) (length rows) (length holders) first
      → Looks M.answer was k was × (page ≡ sets page 0 (written (missing first S) (yard_of h seats rows holders))) × (h ≡ h)
  unfolding step
  missing-refused was k e =
      let q : refused k 0 ≡ M.answer = sym (faulty X T U Listed_of k e) in
      (looked M.answer (Err (record { place = 0; number = k })) q was was k refl refl, ap (λ (o : Outcome Said). sets page 0 (if_taken o (lines_of h.pieces first S seats))) q, refl)

  pub missing-done : (was : Told) (page' : List ℕ) (p : Page) (t : Told) (n : ℕ) → None ≡ page_fault h (length seats) (length rows) (length holders) first
      → (p ≡ page_of h.pieces first S seats) × (page' ≡ sets page 0 (as_lines (lines_of h.pieces first S seats)))
      → t ≡ told_of (taken (listed p)) was → n ≡ code_of (taken (listed p))
      → Looks M.answer was n t × (page' ≡ sets page 0 (written (missing first S) (yard_of h seats rows holders))) × (h ≡ h)
  unfolding step
  missing-done was page' p t n e (ep, el) g k =
      let (f, u, y) = faultless X T U Listed_of e in
      let q : M.answer ≡ taken (listed (page_of h.pieces first S seats)) = ap (λ (z : Turn). z.answer) y in (
        looked M.answer (Ok (Listed p)) (ap {B = Outcome Said} (λ (z : Page). taken (listed z)) ep ∙ sym q) was t n g k,
        el ∙ ap (λ (l : List ℕ). sets page 0 l) (fits f u) ∙ ap (λ (o : Outcome Said). sets page 0 (if_taken o (lines_of h.pieces first S seats))) (sym q),
        refl,
      )
