-- Each call of one seat gives the answer that the history says, and leaves tables that agree with it. Assumes nothing.
use mathlib.Core.Path.{◌≡◌, refl, sym, ap, ap₂, ◌∙◌, subst}
use mathlib.Core.Logic.{◌≢◌}
use mathlib.Core.Bool.{Bool, true, false, not, cond, ◌&&◌, ◌||◌, and-eq-true_iff}
use mathlib.Core.List.{List, ◌∷◌}
use Prim.Native.Nat.{ℕ, zero, suc, ◌+◌, ◌-◌, ◌*◌, ◌≤◌, ◌<◌}
use native.Mathlib.Omega.{arith}
use borrow.Author.Tests.{eq-eqb, ne_eqb, eqb-true, ltb-true, lt-ltb, le-ltb, lt-leb, leb-false}
use lib.Dec.{eqb, ltb, leb}
use lib.ListN.{length, get_or, replicate, length-set}
use lib.Seq.{length-sets}
use Rattle.refusal.specs.Paper.{Outcome, taken, refused}
use Rattle.refusal.specs.Numbers.{late, beyond, bitfield, spare, outside, full, seat, room, damaged}
use Rattle.refusal.specs.Limits.{most_sent}
use Rattle.refusal.specs.declared.Part.{Part}
use Rattle.refusal.proofs.Cases.{by-test, cannot, and-not, or-none, or-first}
use Rattle.peer_wire.specs.Message.{Message, keepalive, choke, unchoke, interested, not_interested, have, request, piece, cancel, other}
use Rattle.peer_wire.specs.Message.{bitfield as bits}
use Rattle.peer_wire.specs.Frames.{Found, found, read_of, meant}
use Rattle.peer_wire.specs.Frames.{wait as more}
use Rattle.yard_tables.specs.Counting.{bit, count, each}
use Rattle.yard_tables.specs.Rows.{width, has_in, row_of, or_bytes, with_bit, with_bits, without_bits}
use Rattle.yard_tables.specs.Seats.{on, cleared, holding, having, spoken}
use Rattle.yard_tables.specs.Seats.{we_choke as choke_mark, we_want as want_mark}
use Rattle.yard_tables.specs.Tables.{Yard, Said, wait, done, used, serve, dropped, wrote, Around, Turn, Out, around, refuse, says, sized, sitting, at_seat, sizes_fit}
use Rattle.yard_tables.specs.Tables.{seated as gives_seat}
use Rattle.yard_tables.specs.Frames.{is_new, gain, completes, over_top, announce, have_of, spare_set, bitfield_of, block_of, piece_of, requested, message_of, frame_of, feed_of}
use Rattle.yard_tables.specs.Frames.{announced as announced_in}
use Rattle.yard_tables.specs.Seating.{seated_at, sit_of, at_zero_of, left, leave_of, mark_of}
use Rattle.yard_tables.specs.Step.{Call, sit, leave, feed, interest}
use Rattle.yard_tables.specs.Step.{choke as chokes}
use Rattle.yard_tables.specs.declared.Head.{Head}
use Rattle.yard_tables.specs.declared.Seat.{Seat}
use Rattle.yard_tables.proofs.Flags.{on_bit}
use Rattle.yard_tables.proofs.Counts.{count-ext, count_none, count-le, count-has, count-lacks, count-or, or_split, some-none}
use Rattle.yard_tables.proofs.Rows.{bit-here, bit-other, bits-here, bits-other, none_here, none_other}
use Rattle.yard_tables.proofs.Sizing.{Fitting, fitting}
use Rattle.yard_tables.proofs.Sweeps.{length-each, get_or-each}
use Rattle.yard_laws.specs.History.{History, Fixed, entry, Event, nothing, came, gone, heard, we_choke, we_want, event, sort_of, announces, seated, announced, fresh, we_are_choking, they_are_interested, sent, block_bytes, pieces, phase, still, free_place, turn_of, seated_by, announced_by, free_by}
use Rattle.yard_laws.specs.Says.{has_piece, held, loaded, record_of, taken_seats, complete_seats, head_of}
use Rattle.torrent_blocks.specs.Answers.{lies}
use Rattle.yard_laws.specs.View.{by_history}
use Rattle.yard_laws.specs.Expected.{no, sits_by, block_by, request_by, message_by, frame_by, mark_by}
use Rattle.yard_laws.proofs.Loading.{all_held}
use Rattle.yard_laws.proofs.Agreeing.{Agrees, One, Becomes, at, put_back, has_then, held_then_of, loaded_then, record_then, free_after, change-agrees, quiet-back, head-fits}

-- ---- tests

-- a test that both the tables and the history make
pub by-same : {A B : Type 0} (Q : A → B → Type 0) (t : Bool) {x y : A} {e f : B} → (t ≡ true → Q x e) → (t ≡ false → Q y f) → Q (cond t x y) (cond t e f)
by-same Q true f g = f refl
by-same Q false f g = g refl

-- a flag, which the tables have as a number
by_flag : {A B : Type 0} (Q : A → B → Type 0) (t : Bool) {x y : A} {e f : B} → (t ≡ true → Q x e) → (t ≡ false → Q y f) → Q (cond (on (bit t)) x y) (cond t e f)
by_flag Q true f g = f refl
by_flag Q false f g = g refl

spread : (s a b : Bool) → s ≡ true → (s && (a || b)) ≡ ((s && a) || b)
spread true a b e = refl
spread false a b e = cannot false refl e

bit-off : (b : Bool) → bit b ≡ 0 → b ≡ false
bit-off true e = absurd (omega arith)
bit-off false e = refl

not-bit : (b : Bool) → not b ≡ true → bit b ≡ 0
not-bit true e = cannot false refl e
not-bit false e = refl

-- ---- one seat

module _ (fixed : Fixed) (h : History) (y : Yard) (agrees : Agrees fixed h y) where
  abbrev n : ℕ
  n = fixed.seats

  -- what a call c at seat i may come to: nothing happens, or an event at that seat
  pub data Good (c : Call) (w : List ℕ) (i : ℕ) : Turn → Outcome Said → Type 0 where
    unchanged : (a : Outcome Said) → ((j : ℕ) → event j (entry c a w) ≡ nothing) → phase (entry c a w) ≡ still
        → Good c w i (record { answer = a; after = at fixed h y agrees i }) a
    changed : (v : Event) (a : Outcome Said) (x : Around) → i < n → One (entry c a w) i v → Becomes fixed h y agrees v i x → Good c w i (record { answer = a; after = x }) a

  -- the answer is the one that the history says, and the tables agree with the history then
  abbrev pub Kept : Call → List ℕ → Out → Outcome Said → Type 0
  Kept c w o e = (o.answer ≡ e) × Agrees fixed (entry c o.answer w ∷ h) o.yard

  kept : (c : Call) (w : List ℕ) (i : ℕ) (t : Turn) (e : Outcome Said) → Good c w i t e → Kept c w (put_back fixed h y agrees i t) e
  kept c w i t e (unchanged a q s) = (refl, quiet-back fixed h y agrees (entry c a w) q s i)
  kept c w i t e (changed v a x l one b) = (refl, change-agrees fixed h y agrees (entry c a w) i v l one x b)

  pub lift : (c : Call) (w : List ℕ) (i : ℕ) (f : ℕ → Around → Turn) (e : Outcome Said) → Good c w i (f n (at fixed h y agrees i)) e → Kept c w (at_seat i f y) e
  lift c w i f e g = subst (λ (t : Turn). Kept c w (put_back fixed h y agrees i t) e)
      (sym (ap (λ (m : ℕ). f m (around y.head (get_or y.seats i cleared) y.rows y.holders)) agrees.seats-len
      ∙ ap (λ (k : Head). f n (around k (get_or y.seats i cleared) y.rows y.holders)) agrees.head-is
      ∙ ap (λ (s : Seat). f n (around (head_of fixed h) s y.rows y.holders)) (agrees.seat-is i)))
      (kept c w i _ e g)

  pub refuses : (c : Call) (w : List ℕ) (i number : ℕ) → Good c w i (refuse number (at fixed h y agrees i)) (no number)
  unfolding event phase
  refuses c w i number = unchanged (refused number 0) (λ j. refl) refl

  fits-here : sizes_fit (head_of fixed h) n (length y.rows) (length y.holders) ≡ true
  fits-here = head-fits fixed h y agrees (taken_seats fixed h) (complete_seats fixed h) (head_of fixed h).round (head_of fixed h).free (head_of fixed h).last

  pub sizes-here : Fitting (head_of fixed h) n (length y.rows) (length y.holders)
  sizes-here = fitting (head_of fixed h) n (length y.rows) (length y.holders) fits-here

  pub sized-good : (c : Call) (w : List ℕ) (i : ℕ) (t : Turn) (e : Outcome Said) → Good c w i t e → Good c w i (sized n (at fixed h y agrees i) t) e
  sized-good c w i t e g = by-test (λ (u : Turn). Good c w i u e) (sizes_fit (head_of fixed h) n (length y.rows) (length y.holders)) (λ p. g) (λ p. cannot _ p fits-here)

  sitting-good : (c : Call) (w : List ℕ) (i : ℕ) (t : Turn) (e : Outcome Said) → (i < n → seated h i ≡ true → Good c w i t e)
      → Good c w i (sitting i n (at fixed h y agrees i) t) (cond (sits_by (by_history fixed h) i) e (no seat))
  sitting-good c w i t e g = subst (λ (b : Bool). Good c w i (cond (ltb i n && b) t (refuse seat (at fixed h y agrees i))) (cond (sits_by (by_history fixed h) i) e (no seat)))
      (sym (on_bit (seated h i)))
      (by-same (Good c w i) (sits_by (by_history fixed h) i)
      (λ p. let k = (and-eq-true_iff (ltb i n) (seated h i)).0 p in g (ltb-true i n k.0) k.1)
      (λ p. refuses c w i seat))

  -- a piece's bit stands in its row
  in_row : (p : ℕ) → p < pieces h → p < 8 * width (pieces h)
  in_row p l = omega arith

  loaded-seated : (i : ℕ) → seated h i ≡ true → loaded h i ≡ eqb (held h i) (pieces h)
  loaded-seated i sat = all_held (seated h i) (announced h i) (pieces h) ∙ ap (λ (b : Bool). b && eqb (held h i) (pieces h)) sat

  -- by the count of its pieces
  then-held : (v : Event) (i : ℕ) → loaded_then v h i ≡ (seated_by v (seated h i) && eqb (held_then_of v h i) (pieces h))
  then-held v i = all_held (seated_by v (seated h i)) (λ p. announced_by v p (announced h i p)) (pieces h)

  -- an event that leaves its seat the free place leaves the free place
  still-free : (v : Event) (i : ℕ) → ((after k : ℕ) → free_by v after k ≡ k) → free_place fixed h ≡ free_after fixed v h i
  still-free v i e = by-test (λ (k : ℕ). free_place fixed h ≡ k) (eqb (free_place fixed h) i) (λ q. sym (e (turn_of fixed h (free_place fixed h)) (free_place fixed h))) (λ q. refl)

  -- ---- an event that leaves who sits there, and what he has
  steady : (v : Event) (i : ℕ) (s : Seat) → i < n → ((after k : ℕ) → free_by v after k ≡ k) → seated_by v (seated h i) ≡ seated h i → ((p : ℕ) → has_then v h i p ≡ has_piece h i p)
      → s ≡ holding (held h i) (record_then fixed v h i) → Becomes fixed h y agrees v i (around (head_of fixed h) s y.rows y.holders)
  steady v i s l free a b e =
      let k : held h i ≡ held_then_of v h i = count-ext (has_piece h i) (has_then v h i) (pieces h) (λ p q. sym (b p)) in
      record {
        head-by = refl;
        free-by = still-free v i free;
        taken-by = ap (λ (t : Bool). taken_seats fixed h + bit t) (sym a);
        complete-by = ap (λ (t : Bool). complete_seats fixed h + bit t) (all_held (seated h i) (announced h i) (pieces h) ∙ ap₂ (λ (t : Bool) (m : ℕ). t && eqb m (pieces h)) (sym a) k ∙ sym (then-held v i));
        seat-by = e ∙ ap (λ (m : ℕ). holding m (record_then fixed v h i)) k;
        rows-len = refl;
        row_here = λ p q. agrees.row_is i p l q ∙ sym (b p);
        row_other = λ j p d q. refl;
        holders-len = refl;
        holders-by = λ p q. ap₂ (λ (m : ℕ) (t : Bool). m + bit t) (agrees.holders-is p q) (sym (b p));
      }

  -- a message that sends no block leaves the bytes of blocks
  no_block : (i k : ℕ) (m : Message (List ℕ)) → block_bytes (sort_of m) ≡ 0
      → holding k (having (sent h i) (record_then fixed (heard m) h i)) ≡ holding k (record_then fixed (heard m) h i)
  no_block i k m e = let q : sent h i ≡ sent h i + block_bytes (sort_of m) = omega (arith, e) in ap (λ (b : ℕ). holding k (having b (record_then fixed (heard m) h i))) q

  -- ---- a truck announces pieces, by a have or a bitfield
  module _ (m : Message (List ℕ)) (i : ℕ) (l : i < n) (sat : seated h i ≡ true) where
    abbrev new : ℕ → Bool
    new = is_new i (announces m) (at fixed h y agrees i)

    abbrev more-pieces : ℕ
    more-pieces = gain i (announces m) (at fixed h y agrees i)

    new_is : (p : ℕ) → p < pieces h → new p ≡ (announces m p && not (has_piece h i p))
    new_is p q = ap (λ (b : Bool). announces m p && not b) (agrees.row_is i p l q)

    held_more : held h i + more-pieces ≡ held_then_of (heard m) h i
    held_more =
        let a : more-pieces ≡ count (pieces h) (λ p. announces m p && not (has_piece h i p)) = count-ext new (λ p. announces m p && not (has_piece h i p)) (pieces h) new_is in
        let b : held_then_of (heard m) h i ≡ count (pieces h) (λ p. has_piece h i p || announces m p) =
        count-ext (has_then (heard m) h i) (λ p. has_piece h i p || announces m p) (pieces h) (λ p q. spread (seated h i) (announced h i p) (announces m p) sat) in
        omega (arith, a, b, count-or (has_piece h i) (announces m) (pieces h))

    held-top : held h i + more-pieces ≤ pieces h
    held-top = omega (arith, held_more, count-le (has_then (heard m) h i) (pieces h))

    -- with a new piece it had not all of them
    unloaded : completes i (announces m) (at fixed h y agrees i) ≡ true → bit (loaded h i) ≡ 0
    unloaded e =
        let k = (and-eq-true_iff (ltb 0 more-pieces) (eqb (held h i + more-pieces) (pieces h))).0 e in
        let a : 0 < more-pieces = ltb-true 0 more-pieces k.0 in
        let b : held h i + more-pieces ≡ pieces h = eqb-true (held h i + more-pieces) (pieces h) k.1 in
        ap bit (loaded-seated i sat ∙ ne_eqb (held h i) (pieces h) (λ q. omega arith))

    below_top : over_top n i (announces m) (at fixed h y agrees i) ≡ false
    unfolding over_top
    below_top =
        or-none _ _
        (and-not (ltb 0 more-pieces) _ (λ a. le-ltb (pieces h) (held h i + more-pieces) held-top))
        (or-none _ _
        (and-not (completes i (announces m) (at fixed h y agrees i)) _ (λ a. lt-leb n (complete_seats fixed h) (omega (arith, unloaded a, count-lacks (loaded h) n i l))))
        (some-none _ (pieces h) (λ p q. and-not (new p) _ (λ a.
        let k : not (has_piece h i p) ≡ true = ((and-eq-true_iff (announces m p) (not (has_piece h i p))).0 (sym (new_is p q) ∙ a)).1 in
        lt-leb n (get_or y.holders p 0) (omega (arith, agrees.holders-is p q, not-bit (has_piece h i p) k, count-lacks (λ j. has_piece h j p) n i l))))))

    completes-is : bit (completes i (announces m) (at fixed h y agrees i)) + bit (loaded h i) ≡ bit (loaded_then (heard m) h i)
    completes-is =
        let a : loaded_then (heard m) h i ≡ eqb (held h i + more-pieces) (pieces h) = then-held (heard m) i ∙ rw (sat, held_more) in
        omega (arith, ap bit a, ap bit (loaded-seated i sat), go (held h i) more-pieces held-top)
      where
        go : (a b : ℕ) → a + b ≤ pieces h → bit (ltb 0 b && eqb (a + b) (pieces h)) + bit (eqb a (pieces h)) ≡ bit (eqb (a + b) (pieces h))
        go a zero q = let e : a + 0 ≡ a = omega arith in rw e (omega arith)
        go a (suc b) q = let p : ltb 0 (suc b) ≡ true = lt-ltb 0 (suc b) (omega arith) in rw (p, ne_eqb a (pieces h) (λ r. omega arith)) (omega arith)

    announced-good : (c : Call) (w : List ℕ) (bytes : ℕ) (rows : List ℕ) → One (entry c (taken (used bytes)) w) i (heard m)
        → holding (held h i + more-pieces) (spoken (record_of fixed h i)) ≡ holding (held h i + more-pieces) (record_then fixed (heard m) h i)
        → length rows ≡ length y.rows
        → ((p : ℕ) → p < pieces h → has_in (width (pieces h)) rows i p ≡ (has_in (width (pieces h)) y.rows i p || announces m p))
        → ((j p : ℕ) → j ≢ i → p < pieces h → has_in (width (pieces h)) rows j p ≡ has_in (width (pieces h)) y.rows j p)
        → Good c w i (announce n i bytes (announces m) rows (at fixed h y agrees i)) (taken (used bytes))
    unfolding announced_in
    announced-good c w bytes rows one marks size here others = by-test (λ (t : Turn). Good c w i t (taken (used bytes))) (over_top n i (announces m) (at fixed h y agrees i))
        (λ a. cannot _ below_top a)
        (λ a. changed (heard m) (taken (used bytes)) (announced_in i (announces m) rows (at fixed h y agrees i)) l one record {
          head-by = refl;
          free-by = still-free (heard m) i (λ after k. refl);
          taken-by = refl;
          complete-by = omega (arith, completes-is);
          seat-by = marks ∙ ap (λ (k : ℕ). holding k (record_then fixed (heard m) h i)) held_more;
          rows-len = size;
          row_here = λ p q. here p q ∙ ap (λ (b : Bool). b || announces m p) (agrees.row_is i p l q) ∙ sym (spread (seated h i) (announced h i p) (announces m p) sat);
          row_other = others;
          holders-len = length-each (λ p k. k + bit (new p)) y.holders;
          holders-by = λ p q.
              let a : get_or (each (λ p k. k + bit (new p)) y.holders) p 0 ≡ get_or y.holders p 0 + bit (new p) = get_or-each (λ p k. k + bit (new p)) y.holders p 0 (omega (arith, sizes-here.counts)) in
              let b : bit (has_then (heard m) h i p) ≡ bit (has_piece h i p || announces m p) = ap bit (spread (seated h i) (announced h i p) (announces m p) sat) in
              omega (arith, a, b, agrees.holders-is p q, ap bit (new_is p q), or_split (has_piece h i p) (announces m p));
        })

  -- ---- a frame

  -- a taken frame means its message, for its seat
  frame-one : (i : ℕ) (s : List ℕ) (w : List ℕ) (m : Message Part) (bytes : ℕ) (a : Said) → read_of s ≡ taken (found m bytes)
      → One (entry (feed i s) (taken a) w) i (heard (meant s m))
  unfolding event phase
  frame-one i s w m bytes a e = record {
    here = rw (eq-eqb i i refl, e);
    others = λ j d. rw (ne_eqb j i d);
    still-so = refl;
  }

  module _ (c : Call) (w : List ℕ) (i : ℕ) (l : i < n) (sat : seated h i ≡ true) (bytes : ℕ) where
    -- a message that announces nothing
    silent : (m : Message (List ℕ)) (s : Seat) (a : Said) → One (entry c (taken a) w) i (heard m) → ((p : ℕ) → announces m p ≡ false)
        → s ≡ holding (held h i) (record_then fixed (heard m) h i) → Good c w i (says a (around (head_of fixed h) s y.rows y.holders)) (taken a)
    silent m s a one none marks = changed (heard m) (taken a) _ l one
        (steady (heard m) i s l (λ after k. refl) refl (λ p. rw (none p) (ap (λ (b : Bool). seated h i && b) (or-first (announced h i p) false refl))) marks)

    block-good : (m : Message (List ℕ)) (p b k : ℕ) (a : Said) → One (entry c (taken a) w) i (heard m) → ((p : ℕ) → announces m p ≡ false)
        → spoken (record_of fixed h i) ≡ holding (held h i) (record_then fixed (heard m) h i)
        → Good c w i (block_of p b k a (at fixed h y agrees i)) (block_by (by_history fixed h) p b k a)
    unfolding block_of
    block-good m p b k a one none marks = by-same (Good c w i) (ltb p (pieces h))
        (λ _. by-same (Good c w i) (lies ((by_history fixed h).longs p) b k) (λ _. silent m (spoken (record_of fixed h i)) a one none marks) (λ _. refuses c w i outside))
        (λ _. refuses c w i beyond)

    asked_is : requested bytes (record_of fixed h i) ≡ request_by (by_history fixed h) i bytes
    asked_is = ap₂ (λ (a b : Bool). cond (not a && b) (serve bytes) (dropped bytes)) (on_bit (we_are_choking fixed h i)) (on_bit (they_are_interested h i))

    message-good : (m : Message (List ℕ)) → ((a : Said) → One (entry c (taken a) w) i (heard m))
        → Good c w i (message_of n i bytes m (at fixed h y agrees i)) (message_by (by_history fixed h) i bytes m)
    unfolding message_of have_of bitfield_of piece_of
    message-good keepalive one = silent keepalive _ (used bytes) (one (used bytes)) (λ p. refl) (no_block i (held h i) keepalive refl)
    message-good choke one = silent choke _ (used bytes) (one (used bytes)) (λ p. refl) (no_block i (held h i) choke refl)
    message-good unchoke one = silent unchoke _ (used bytes) (one (used bytes)) (λ p. refl) (no_block i (held h i) unchoke refl)
    message-good interested one = silent interested _ (used bytes) (one (used bytes)) (λ p. refl) (no_block i (held h i) interested refl)
    message-good not_interested one = silent not_interested _ (used bytes) (one (used bytes)) (λ p. refl) (no_block i (held h i) not_interested refl)
    message-good (have p) one = by-same (Good c w i) (ltb p (pieces h))
        (λ e. let q : p < 8 * width (pieces h) = in_row p (ltb-true p (pieces h) e) in
        announced-good (have p) i l sat c w bytes (with_bit (width (pieces h)) i p y.rows) (one (used bytes)) (no_block i _ (have p) refl) (length-set y.rows _ _)
        (λ k r. bit-here (width (pieces h)) n y.rows sizes-here.row i l p k q)
        (λ j k d r. bit-other (width (pieces h)) n y.rows sizes-here.row i l p j k q (in_row k r) d))
        (λ _. refuses c w i beyond)
    message-good (bits b) one = by_flag (Good c w i) (fresh h i)
        (λ _. by-same (Good c w i) (eqb (length b) (width (pieces h)))
        (λ _. by-same (Good c w i) (spare_set (pieces h) b)
        (λ _. refuses c w i spare)
        (λ _. announced-good (bits b) i l sat c w bytes (with_bits (width (pieces h)) i b y.rows) (one (used bytes)) (no_block i _ (bits b) refl) (length-sets y.rows (i * width (pieces h)) (or_bytes (row_of (width (pieces h)) y.rows i) b))
        (λ k r. bits-here (width (pieces h)) n y.rows sizes-here.row i l b k (in_row k r))
        (λ j k d r. bits-other (width (pieces h)) n y.rows sizes-here.row i l b j k (in_row k r) d)))
        (λ _. refuses c w i bitfield))
        (λ _. refuses c w i late)
    message-good (request p b k) one = subst (λ (a : Said). Good c w i (block_of p b k a (at fixed h y agrees i)) (block_by (by_history fixed h) p b k (request_by (by_history fixed h) i bytes))) (sym asked_is)
        (block-good (request p b k) p b k (request_by (by_history fixed h) i bytes) (one (request_by (by_history fixed h) i bytes)) (λ p. refl) (no_block i (held h i) (request p b k) refl))
    message-good (piece p b block) one = by-same (Good c w i) (ltb p (pieces h))
        (λ _. by-same (Good c w i) (lies ((by_history fixed h).longs p) b (length block))
        (λ _. by-same (Good c w i) (ltb most_sent (sent h i + length block))
        (λ _. refuses c w i damaged)
        (λ _. silent (piece p b block) _ (used bytes) (one (used bytes)) (λ p. refl) refl))
        (λ _. refuses c w i outside))
        (λ _. refuses c w i beyond)
    message-good (cancel p b k) one = block-good (cancel p b k) p b k (used bytes) (one (used bytes)) (λ p. refl) (no_block i (held h i) (cancel p b k) refl)
    message-good (other id payload) one = silent (other id payload) _ (used bytes) (one (used bytes)) (λ p. refl) (no_block i (held h i) (other id payload) refl)

  cond-nothing : (b : Bool) (v : Event) → v ≡ nothing → cond b v nothing ≡ nothing
  cond-nothing true v e = e
  cond-nothing false v e = refl

  frame-good : (i : ℕ) (s : List ℕ) (w : List ℕ) → i < n → seated h i ≡ true → (o : Outcome Found) → read_of s ≡ o
      → Good (feed i s) w i (frame_of n i s o (at fixed h y agrees i)) (frame_by (by_history fixed h) i s o)
  unfolding event phase
  frame-good i s w l sat (refused number place) e = refuses (feed i s) w i number
  frame-good i s w l sat (taken more) e = unchanged (taken wait) (λ j. cond-nothing (eqb j i) _ (rw e)) refl
  frame-good i s w l sat (taken (found m bytes)) e = message-good (feed i s) w i l sat bytes (meant s m) (λ a. frame-one i s w m bytes a e)

  pub feed-kept : (i : ℕ) (s : List ℕ) (w : List ℕ) → Kept (feed i s) w (at_seat i (feed_of i s) y) (cond (sits_by (by_history fixed h) i) (frame_by (by_history fixed h) i s (read_of s)) (no seat))
  unfolding feed_of
  feed-kept i s w = lift (feed i s) w i (feed_of i s) _
      (sized-good (feed i s) w i _ _ (sitting-good (feed i s) w i _ _ (λ l sat. frame-good i s w l sat (read_of s) refl)))

  -- ---- our own marks

  mark-good : (f : Seat → Seat) (c : Call) (w : List ℕ) (i space : ℕ) (v : Event) → One (entry c (taken (wrote 5)) w) i v
      → ((after k : ℕ) → free_by v after k ≡ k) → seated_by v (seated h i) ≡ seated h i → ((p : ℕ) → has_then v h i p ≡ has_piece h i p) → f (record_of fixed h i) ≡ holding (held h i) (record_then fixed v h i)
      → Good c w i (mark_of f space i n (at fixed h y agrees i)) (mark_by (by_history fixed h) i space)
  unfolding mark_of
  mark-good f c w i space v one free a b e = sized-good c w i _ _ (sitting-good c w i _ _ (λ l sat.
      by-same (Good c w i) (ltb space 5) (λ _. refuses c w i room) (λ _. changed v (taken (wrote 5)) _ l one (steady v i (f (record_of fixed h i)) l free a b e))))

  pub choke-kept : (i : ℕ) (b : Bool) (space : ℕ) (w : List ℕ) → Kept (chokes i b space) w (at_seat i (mark_of (choke_mark b) space i) y) (mark_by (by_history fixed h) i space)
  unfolding event phase
  choke-kept i b space w = lift (chokes i b space) w i (mark_of (choke_mark b) space i) _
      (mark-good (choke_mark b) (chokes i b space) w i space (we_choke b)
      (record { here = rw (eq-eqb i i refl); others = λ j d. rw (ne_eqb j i d); still-so = refl }) (λ after k. refl) refl (λ p. refl) refl)

  pub interest-kept : (i : ℕ) (b : Bool) (space : ℕ) (w : List ℕ) → Kept (interest i b space) w (at_seat i (mark_of (want_mark b) space i) y) (mark_by (by_history fixed h) i space)
  unfolding event phase
  interest-kept i b space w = lift (interest i b space) w i (mark_of (want_mark b) space i) _
      (mark-good (want_mark b) (interest i b space) w i space (we_want b)
      (record { here = rw (eq-eqb i i refl); others = λ j d. rw (ne_eqb j i d); still-so = refl }) (λ after k. refl) refl (λ p. refl) refl)

  -- ---- sitting down and leaving

  none_then : (v : Event) (i : ℕ) → ((p : ℕ) → bit (has_then v h i p) ≡ 0) → held_then_of v h i ≡ 0
  none_then v i e = count_none (has_then v h i) (pieces h) (λ p q. bit-off (has_then v h i p) (e p))

  length_without : (i : ℕ) → length (without_bits (width (pieces h)) i y.rows) ≡ length y.rows
  length_without i = length-sets y.rows (i * width (pieces h)) (replicate (width (pieces h)) 0)

  came-becomes : (i : ℕ) → i < n → seated h i ≡ false → Becomes fixed h y agrees came i (seated_at i (at fixed h y agrees i))
  unfolding seated_at
  came-becomes i l f =
      let k : held_then_of came h i ≡ 0 = none_then came i (λ p. omega arith) in
      let none : loaded_then came h i ≡ false = then-held came i ∙ rw (k, ne_eqb 0 (pieces h) (λ e. omega (arith, sizes-here.some))) in
      record {
        head-by = refl;
        free-by = still-free came i (λ after k. refl);
        taken-by = rw f (omega arith);
        complete-by = rw (f, none);
        seat-by = ap (λ (m : ℕ). holding m (record_then fixed came h i)) (sym k);
        rows-len = length_without i;
        row_here = λ p q. none_here (width (pieces h)) n y.rows sizes-here.row i l p (in_row p q);
        row_other = λ j p d q. none_other (width (pieces h)) n y.rows sizes-here.row i l j p (in_row p q) d;
        holders-len = refl;
        holders-by = λ p q. rw f (ap (λ (m : ℕ). m + 0) (agrees.holders-is p q));
      }

  pub sit-good : (w : List ℕ) (i : ℕ) → (i < n → seated h i ≡ false)
      → Good sit w i (sit_of i n (at fixed h y agrees i)) (cond (leb n i) (no full) (taken (gives_seat i)))
  unfolding sit_of event phase
  sit-good w i free = sized-good sit w i _ _ (by-same (Good sit w i) (leb n i)
      (λ _. refuses sit w i full)
      (λ e. let l : i < n = leb-false n i e in
      by-test (λ (t : Turn). Good sit w i t (taken (gives_seat i))) (leb n (taken_seats fixed h))
      (λ a. cannot _ (lt-leb n (taken_seats fixed h) (omega (arith, ap bit (free l), count-lacks (seated h) n i l))) a)
      (λ _. changed came (taken (gives_seat i)) _ l
      (record { here = rw (eq-eqb i i refl); others = λ j d. rw (ne_eqb j i d); still-so = refl })
      (came-becomes i l (free l)))))

  module _ (i : ℕ) (l : i < n) (sat : seated h i ≡ true) where
    row-of : (p : ℕ) → p < pieces h → has_in (width (pieces h)) y.rows i p ≡ has_piece h i p
    row-of p q = agrees.row_is i p l q

    none-zero : at_zero_of i (at fixed h y agrees i) ≡ false
    unfolding at_zero_of
    none-zero =
        or-none _ _
        (ne_eqb (taken_seats fixed h) 0 (λ e. omega (arith, ap bit sat, count-has (seated h) n i l)))
        (or-none _ _
        (and-not (eqb (held h i) (pieces h)) _ (λ a. ne_eqb (complete_seats fixed h) 0 (λ e. omega (arith, ap bit (loaded-seated i sat ∙ a), count-has (loaded h) n i l))))
        (some-none _ (pieces h) (λ p q. and-not (has_in (width (pieces h)) y.rows i p) _ (λ a. ne_eqb (get_or y.holders p 0) 0
        (λ e. omega (arith, ap bit (sym (row-of p q) ∙ a), agrees.holders-is p q, count-has (λ j. has_piece h j p) n i l))))))

    gone-becomes : Becomes fixed h y agrees gone i (left i (at fixed h y agrees i))
    unfolding left
    gone-becomes = record {
      head-by = refl;
      free-by = refl;
      taken-by = omega (arith, ap bit sat, count-has (seated h) n i l);
      complete-by = omega (arith, ap bit (loaded-seated i sat), count-has (loaded h) n i l);
      seat-by = ap (λ (m : ℕ). holding m (record_then fixed gone h i)) (sym (none_then gone i (λ p. omega arith)));
      rows-len = length_without i;
      row_here = λ p q. none_here (width (pieces h)) n y.rows sizes-here.row i l p (in_row p q);
      row_other = λ j p d q. none_other (width (pieces h)) n y.rows sizes-here.row i l j p (in_row p q) d;
      holders-len = length-each (λ p k. k - bit (has_in (width (pieces h)) y.rows i p)) y.holders;
      holders-by = λ p q.
          let a : get_or (each (λ p k. k - bit (has_in (width (pieces h)) y.rows i p)) y.holders) p 0 ≡ get_or y.holders p 0 - bit (has_in (width (pieces h)) y.rows i p) =
          get_or-each (λ p k. k - bit (has_in (width (pieces h)) y.rows i p)) y.holders p 0 (omega (arith, sizes-here.counts)) in
          omega (arith, a, ap bit (row-of p q), agrees.holders-is p q, count-has (λ j. has_piece h j p) n i l);
    }

  pub leave-kept : (i : ℕ) (w : List ℕ) → Kept (leave i) w (at_seat i (leave_of i) y) (cond (sits_by (by_history fixed h) i) (taken done) (no seat))
  unfolding leave_of event phase
  leave-kept i w = lift (leave i) w i (leave_of i) _ (sized-good (leave i) w i _ _ (sitting-good (leave i) w i _ _ (λ l sat.
      by-test (λ (t : Turn). Good (leave i) w i t (taken done)) (at_zero_of i (at fixed h y agrees i))
      (λ a. cannot _ (none-zero i l sat) a)
      (λ _. changed gone (taken done) _ l
      (record { here = rw (eq-eqb i i refl); others = λ j d. rw (ne_eqb j i d); still-so = refl })
      (gone-becomes i l sat)))))
