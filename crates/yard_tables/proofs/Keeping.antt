-- A refused call, and one that waits, leaves the tables as they were, whatever is in them. Assumes nothing.
use mathlib.Core.Path.{◌≡◌, refl, ap, ◌∙◌}
use mathlib.Core.Bool.{Bool, not, ◌&&◌}
use mathlib.Core.List.{List}
use Prim.Native.Nat.{ℕ, ◌+◌}
use lib.Dec.{eqb, ltb, leb}
use lib.ListN.{length, get_or, set}
use lib.Seq.{set-get_or}
use Rattle.refusal.specs.Paper.{Outcome, taken, refused}
use Rattle.refusal.specs.Limits.{most_sent}
use Rattle.refusal.proofs.Cases.{by-test}
use Rattle.peer_wire.specs.Message.{Message, keepalive, choke, unchoke, interested, not_interested, have, bitfield, request, piece, cancel, other}
use Rattle.peer_wire.specs.Frames.{Found, found, read_of, meant}
use Rattle.peer_wire.specs.Frames.{wait as more}
use Rattle.yard_tables.specs.Rows.{width, with_bit, with_bits, bit_at}
use Rattle.yard_tables.specs.Seats.{on, cleared, we_choke, we_want}
use Rattle.yard_tables.specs.Tables.{Yard, Said, wait, done, used, serve, dropped, seated, wrote, listed, shows, holds, held_by_of, scarce, unchoked, Around, Turn, Out, around, sizes_fit, sized, sitting, yard_of, at_seat}
use Rattle.yard_tables.specs.Frames.{over_top, announce, have_of, spare_set, bitfield_of, block_fits, block_of, piece_of, requested, message_of, frame_of, feed_of}
use Rattle.yard_tables.specs.Seating.{emptied, start_of, lowest_free, sit_of, at_zero_of, leave_of, mark_of}
use Rattle.yard_tables.specs.Rounds.{misplaced, round_of}
use Rattle.yard_tables.specs.Looks.{missing_of, scarcest_of, seat_of, has_of, count_of}
use Rattle.yard_tables.specs.Step.{Call, start, sit, leave, feed, choke as chokes, interest as wants, missing, scarcest, look, has, count, round, step}
use Rattle.yard_tables.specs.declared.Seat.{Seat}

-- a refusal, or a wait
abbrev pub Unused : Outcome Said → Type 0
Unused (refused n p) = Unit
Unused (taken wait) = Unit
Unused (taken done) = ⊥
Unused (taken (used n)) = ⊥
Unused (taken (serve n)) = ⊥
Unused (taken (dropped n)) = ⊥
Unused (taken (seated i)) = ⊥
Unused (taken (wrote n)) = ⊥
Unused (taken (listed x)) = ⊥
Unused (taken (shows s)) = ⊥
Unused (taken (holds b)) = ⊥
Unused (taken (held_by_of n)) = ⊥
Unused (taken (scarce p)) = ⊥
Unused (taken (unchoked n)) = ⊥

-- ---- one seat

module _ (x : Around) where
  abbrev pub Keeps : Turn → Type 0
  Keeps t = Unused t.answer → t.after ≡ x

  sized-keeps : (n : ℕ) (t : Turn) → Keeps t → Keeps (sized n x t)
  sized-keeps n t k = by-test Keeps (sizes_fit x.head n (length x.rows) (length x.holders)) (λ e. k) (λ e u. refl)

  sitting-keeps : (i n : ℕ) (t : Turn) → Keeps t → Keeps (sitting i n x t)
  sitting-keeps i n t k = by-test Keeps (ltb i n && on x.seat.taken) (λ e. k) (λ e u. refl)

  announce-keeps : (n i bytes : ℕ) (said : ℕ → Bool) (rows : List ℕ) → Keeps (announce n i bytes said rows x)
  announce-keeps n i bytes said rows = by-test Keeps (over_top n i said x) (λ e u. refl) (λ e u. absurd u)

  requested-taken : (bytes : ℕ) → Unused (taken (requested bytes x.seat)) → ⊥
  requested-taken bytes = by-test (λ (a : Said). Unused (taken a) → ⊥) (not (on x.seat.am_choking) && on x.seat.peer_interested) (λ e u. u) (λ e u. u)

  block-keeps : (p b k : ℕ) (a : Said) → (Unused (taken a) → ⊥) → Keeps (block_of p b k a x)
  unfolding block_of
  block-keeps p b k a f = by-test Keeps (ltb p x.head.pieces) (λ e. by-test Keeps (block_fits x.head p b k) (λ g u. absurd (f u)) (λ g u. refl)) (λ e u. refl)

  piece-keeps : (p b k bytes : ℕ) → Keeps (piece_of p b k bytes x)
  unfolding piece_of
  piece-keeps p b k bytes =
      by-test Keeps (ltb p x.head.pieces)
      (λ e. by-test Keeps (block_fits x.head p b k) (λ f. by-test Keeps (ltb most_sent (x.seat.bytes + k)) (λ g u. refl) (λ g u. absurd u)) (λ f u. refl))
      (λ e u. refl)

  message-keeps : (n i bytes : ℕ) (m : Message (List ℕ)) → Keeps (message_of n i bytes m x)
  unfolding message_of have_of bitfield_of
  message-keeps n i bytes keepalive = λ u. absurd u
  message-keeps n i bytes choke = λ u. absurd u
  message-keeps n i bytes unchoke = λ u. absurd u
  message-keeps n i bytes interested = λ u. absurd u
  message-keeps n i bytes not_interested = λ u. absurd u
  message-keeps n i bytes (have p) = by-test Keeps (ltb p x.head.pieces) (λ e. announce-keeps n i bytes (λ q. eqb q p) (with_bit (width x.head.pieces) i p x.rows)) (λ e u. refl)
  message-keeps n i bytes (bitfield b) = by-test Keeps (on x.seat.fresh)
      (λ e. by-test Keeps (eqb (length b) (width x.head.pieces))
      (λ f. by-test Keeps (spare_set x.head.pieces b) (λ g u. refl) (λ g. announce-keeps n i bytes (bit_at b) (with_bits (width x.head.pieces) i b x.rows)))
      (λ f u. refl))
      (λ e u. refl)
  message-keeps n i bytes (request p b k) = block-keeps p b k (requested bytes x.seat) (requested-taken bytes)
  message-keeps n i bytes (piece p b block) = piece-keeps p b (length block) bytes
  message-keeps n i bytes (cancel p b k) = block-keeps p b k (used bytes) (λ u. u)
  message-keeps n i bytes (other id payload) = λ u. absurd u

  frame-keeps : (n i : ℕ) (s : List ℕ) (o : Outcome Found) → Keeps (frame_of n i s o x)
  frame-keeps n i s (refused number place) = λ u. refl
  frame-keeps n i s (taken more) = λ u. refl
  frame-keeps n i s (taken (found m bytes)) = message-keeps n i bytes (meant s m)

  pub feed-keeps : (i : ℕ) (s : List ℕ) (n : ℕ) → Keeps (feed_of i s n x)
  unfolding feed_of
  feed-keeps i s n = sized-keeps n _ (sitting-keeps i n _ (frame-keeps n i s (read_of s)))

  pub sit-keeps : (i n : ℕ) → Keeps (sit_of i n x)
  unfolding sit_of
  sit-keeps i n = sized-keeps n _ (by-test Keeps (leb n i) (λ e u. refl) (λ e. by-test Keeps (leb n x.head.taken) (λ f u. refl) (λ f u. absurd u)))

  pub leave-keeps : (i n : ℕ) → Keeps (leave_of i n x)
  unfolding leave_of
  leave-keeps i n = sized-keeps n _ (sitting-keeps i n _ (by-test Keeps (at_zero_of i x) (λ e u. refl) (λ e u. absurd u)))

  pub mark-keeps : (f : Seat → Seat) (space i n : ℕ) → Keeps (mark_of f space i n x)
  unfolding mark_of
  mark-keeps f space i n = sized-keeps n _ (sitting-keeps i n _ (by-test Keeps (ltb space 5) (λ e u. refl) (λ e u. absurd u)))

  missing-keeps : (first space : ℕ) (seats : List Seat) (n : ℕ) → Keeps (missing_of first space seats n x)
  missing-keeps first space seats n = sized-keeps n _ (by-test Keeps (leb first n) (λ e u. refl) (λ e u. refl))

  scarcest-keeps : (n : ℕ) → Keeps (scarcest_of n x)
  unfolding scarcest_of
  scarcest-keeps n = sized-keeps n _ (λ u. refl)

  look-keeps : (i n : ℕ) → Keeps (seat_of i n x)
  unfolding seat_of
  look-keeps i n = sized-keeps n _ (by-test Keeps (ltb i n) (λ e u. refl) (λ e u. refl))

  has-keeps : (i p n : ℕ) → Keeps (has_of i p n x)
  unfolding has_of
  has-keeps i p n = sized-keeps n _ (by-test Keeps (ltb i n) (λ e. by-test Keeps (ltb p x.head.pieces) (λ f u. refl) (λ f u. refl)) (λ e u. refl))

  count-keeps : (p n : ℕ) → Keeps (count_of p n x)
  unfolding count_of
  count-keeps p n = sized-keeps n _ (by-test Keeps (ltb p x.head.pieces) (λ e u. refl) (λ e u. refl))

-- ---- the whole yard

module _ (y : Yard) where
  abbrev KeepsYard : Out → Type 0
  KeepsYard o = Unused o.answer → o.yard ≡ y

  -- seat i and the tables around it
  abbrev At : ℕ → Around
  At i = around y.head (get_or y.seats i cleared) y.rows y.holders

  -- what leaves these leaves the yard
  pub put_back : (i : ℕ) (f : ℕ → Around → Turn) → (f (length y.seats) (At i)).after ≡ At i → (at_seat i f y).yard ≡ y
  put_back i f k =
      ap (λ (x : Around). yard_of x.head (set y.seats i x.seat) x.rows x.holders) k
      ∙ ap (λ (l : List Seat). yard_of y.head l y.rows y.holders) (set-get_or y.seats i cleared)

  back : (i : ℕ) (f : ℕ → Around → Turn) → Keeps (At i) (f (length y.seats) (At i)) → KeepsYard (at_seat i f y)
  back i f k u = put_back i f (k u)

  pub step_keeps : (c : Call) → Unused (step c y).answer → (step c y).yard ≡ y
  unfolding step start_of round_of
  step_keeps (start p l k) = by-test KeepsYard (sizes_fit (emptied p l k y).head (length y.seats) (length y.rows) (length y.holders)) (λ e u. absurd u) (λ e u. refl)
  step_keeps sit = back (lowest_free y.seats) (sit_of (lowest_free y.seats)) (sit-keeps _ (lowest_free y.seats) (length y.seats))
  step_keeps (leave i) = back i (leave_of i) (leave-keeps _ i (length y.seats))
  step_keeps (feed i s) = back i (feed_of i s) (feed-keeps _ i s (length y.seats))
  step_keeps (chokes i b space) = back i (mark_of (we_choke b) space i) (mark-keeps _ (we_choke b) space i (length y.seats))
  step_keeps (wants i b space) = back i (mark_of (we_want b) space i) (mark-keeps _ (we_want b) space i (length y.seats))
  step_keeps (missing first space) = back 0 (missing_of first space y.seats) (missing-keeps _ first space y.seats (length y.seats))
  step_keeps scarcest = back 0 scarcest_of (scarcest-keeps _ (length y.seats))
  step_keeps (look i) = back i (seat_of i) (look-keeps _ i (length y.seats))
  step_keeps (has i p) = back i (has_of i p) (has-keeps _ i p (length y.seats))
  step_keeps (count p) = back 0 (count_of p) (count-keeps _ p (length y.seats))
  step_keeps round =
      by-test KeepsYard (sizes_fit y.head (length y.seats) (length y.rows) (length y.holders))
      (λ e. by-test KeepsYard (misplaced y.head (length y.seats)) (λ f u. refl) (λ f u. absurd u))
      (λ e u. refl)
