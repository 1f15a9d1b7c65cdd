-- 38 and 39 are given exactly for their causes, on any tables. Assumes nothing.
use mathlib.Core.Path.{◌≡◌, refl, sym, ap, ◌∙◌, subst}
use mathlib.Core.Logic.{◌⊎◌, inl, inr, ◌↔◌}
use mathlib.Core.Bool.{Bool, true, false, not, cond, ◌&&◌, ◌||◌, and-eq-true_iff}
use mathlib.Core.List.{List}
use Prim.Native.Nat.{ℕ, ◌+◌, ◌*◌, ◌≤◌, ◌<◌}
use native.Mathlib.Omega.{arith}
use borrow.Author.Tests.{eq-eqb, ne_eqb, eqb-true, eqb-false, lt-ltb, ltb-true, not-true, le-leb, lt-leb, leb-true, leb-false}
use lib.Dec.{eqb, ltb, leb}
use lib.ListN.{length, get_or}
use Rattle.refusal.specs.Paper.{Outcome, taken, refused}
use Rattle.refusal.specs.Numbers.{frame, payload, late, beyond, bitfield, spare, outside, full, seat, room, sizes, damaged}
use Rattle.refusal.specs.Limits.{most_sent}
use Rattle.refusal.proofs.Cases.{by_bool, by-test, cannot, both, both_true, or_cases, false-if, less-or}
use Rattle.torrent_blocks.specs.Covers.{Block}
use Rattle.torrent_blocks.proofs.Whole.{lies-is, is-lies}
use Rattle.peer_wire.specs.Message.{Message, keepalive, choke, unchoke, interested, not_interested, have, request, piece, cancel, other}
use Rattle.peer_wire.specs.Message.{bitfield as bits}
use Rattle.peer_wire.specs.Frames.{Found, found, read_of, meant}
use Rattle.peer_wire.specs.Frames.{wait as more}
use Rattle.peer_wire.specs.Causes.{TooLong, All, Right}
use Rattle.peer_wire.proofs.Decided.{exactly}
use Rattle.yard_tables.specs.Counting.{bit, some}
use Rattle.yard_tables.specs.Counting.{count as count_of-all}
use Rattle.yard_tables.specs.Rows.{width, bit_at, with_bit, with_bits}
use Rattle.yard_tables.specs.Seats.{on, cleared, we_choke, we_want}
use Rattle.yard_tables.specs.Tables.{Yard, Said, used, Around, around, Turn, Out, refuse, sized, sitting, sizes_fit}
use Rattle.yard_tables.specs.Frames.{is_new, gain, completes, over_top, announce, have_of, spare_set, bitfield_of, block_fits, block_of, piece_size, piece_of, requested, message_of, frame_of, feed_of}
use Rattle.yard_tables.specs.Rounds.{nobody, misplaced, round_of}
use Rattle.yard_tables.specs.Seating.{start_of, lowest_free, sit_of, at_zero_of, leave_of, mark_of}
use Rattle.yard_tables.specs.Looks.{scarcest_of, has_of, count_of}
use Rattle.yard_tables.specs.Looks.{seat_of as look_of}
use Rattle.yard_tables.specs.Step.{Call, start, sit, leave, feed, interest, missing, scarcest, look, has, count, round, step}
use Rattle.yard_tables.specs.Step.{choke as chokes}
use Rattle.yard_tables.specs.declared.Seat.{Seat}
use Rattle.yard_laws.specs.History.{sizes_of}
use Rattle.yard_laws.specs.Causes.{Says}
use Rattle.yard_tables.proofs.Counts.{count_none, count-has, some_one, some-every}
use Rattle.yard_laws.specs.Damage.{Fit, Unfit, seat_of, Taken, Free, in_row, Announces, by-have, by-bitfield, New, gained, Damaged}
use Rattle.yard_laws.specs.Damage.Damaged.{taken-top, taken-zero, complete-top, complete-zero, holders-top, holders-zero, held-top, bytes-top, number-over, free-nowhere, last-nowhere}
use Rattle.yard_laws.proofs.Starting.{fits_for, sized-fits, fits-sized}
use Rattle.yard_laws.proofs.Lowest.{free-lowest}

-- ---- the way that a test takes

pub pick : {A : Type 0} (b : Bool) (x z : A) → b ≡ true → cond b x z ≡ x
pick b x z e = rw e

pub skip : {A : Type 0} (b : Bool) (x z : A) → b ≡ false → cond b x z ≡ z
skip b x z e = rw e

-- ---- tests over all numbers below one

pub some-has : (f : ℕ → Bool) (n k : ℕ) → k < n → f k ≡ true → some n f ≡ true
some-has f n k l e = by_bool (some n f) (λ t. t) (λ t. cannot (f k) (some-every f n t k l) e)

count-one : (f : ℕ → Bool) (n : ℕ) → 0 < count_of-all n f → (k : ℕ) × (k < n) × (f k ≡ true)
count-one f n l = by_bool (some n f) (some_one f n) (λ t. absurd (omega (arith, count_none f n (some-every f n t))))

or-one : (a b : Bool) → a ≡ true → a || b ≡ true
or-one a b e = rw e

or-other : (a b : Bool) → b ≡ true → a || b ≡ true
or-other true b e = refl
or-other false b e = e

pub no-spare : (pieces : ℕ) (b : List ℕ) → spare_set pieces b ≡ false → (p : ℕ) → pieces ≤ p → p < 8 * length b → bit_at b p ≡ false
no-spare pieces b e p l m =
    false-if (bit_at b p) (λ t. cannot _ (some-every (λ q. leb pieces q && bit_at b q) (8 * length b) e p m) (both_true (leb pieces p) (bit_at b p) (le-leb pieces p l) t))

pub spare-none : (pieces : ℕ) (b : List ℕ) → ((p : ℕ) → pieces ≤ p → p < 8 * length b → bit_at b p ≡ false) → spare_set pieces b ≡ false
spare-none pieces b f = false-if (spare_set pieces b) (λ t.
    let k = some_one (λ q. leb pieces q && bit_at b q) (8 * length b) t in
    let q = both (leb pieces k.0) (bit_at b k.0) k.2 in
    cannot _ (f k.0 (leb-true pieces k.0 q.0) k.1) q.1)

module _ (y : Yard) where
  abbrev n : ℕ
  n = length y.seats

  abbrev pieces : ℕ
  pieces = y.head.pieces

  abbrev pub fits : Bool
  fits = sizes_fit y.head n (length y.rows) (length y.holders)

  pub fit_is : fits ≡ true → Fit y
  unfolding sizes_fit
  fit_is e = fits-sized (sizes_of pieces y.head.piece_length y.head.last_length) y e

  pub is-fit : Fit y → fits ≡ true
  unfolding sizes_fit
  is-fit f = sized-fits (sizes_of pieces y.head.piece_length y.head.last_length) y f

  -- seat i and the tables around it
  abbrev pub seat_at : ℕ → Around
  seat_at i = around y.head (seat_of y i) y.rows y.holders

  -- ---- the tests of a frame that announces, of leaving and of sitting down, by their counts

  module _ (i : ℕ) (said : ℕ → Bool) where
    new_is : (p : ℕ) → p < pieces → is_new i said (seat_at i) p ≡ true → New y i said p
    new_is p l e = let q = both (said p) (not (in_row y i p)) e in record { there = l; told = q.0; lacked = not-true (in_row y i p) q.1 }

    is-new : (p : ℕ) → New y i said p → is_new i said (seat_at i) p ≡ true
    is-new p w = both_true (said p) (not (in_row y i p)) w.told (ap not w.lacked)

    some-new : (p : ℕ) → New y i said p → 0 < gain i said (seat_at i)
    some-new p w =
        let e : bit (is_new i said (seat_at i) p) ≡ 1 = ap bit (is-new p w) in
        omega (arith, count-has (is_new i said (seat_at i)) pieces p w.there)

    module _ (s : List ℕ) (fit : Fit y) (here : Taken y i) (a : Announces y i s said) where
      pub over-is : over_top n i said (seat_at i) ≡ true → Damaged y (feed i s)
      unfolding over_top
      over-is e = first (or_cases _ _ e)
        where
          one : (0 < gain i said (seat_at i)) → (p : ℕ) × New y i said p
          one l = let k = count-one (is_new i said (seat_at i)) pieces l in (k.0, new_is k.0 k.1 k.2)

          second : (completes i said (seat_at i) && leb n y.head.complete ≡ true) ⊎ (some pieces (λ p. is_new i said (seat_at i) p && leb n (get_or y.holders p 0)) ≡ true) → Damaged y (feed i s)
          second (inl e) =
              let q = both (completes i said (seat_at i)) (leb n y.head.complete) e in
              let c = both (ltb 0 (gain i said (seat_at i))) (eqb ((seat_of y i).held + gain i said (seat_at i)) pieces) q.0 in
              let w = one (ltb-true 0 (gain i said (seat_at i)) c.0) in
              complete-top i s said w.0 fit here a w.1 (eqb-true ((seat_of y i).held + gain i said (seat_at i)) pieces c.1) (leb-true n y.head.complete q.1)
          second (inr e) =
              let k = some_one (λ p. is_new i said (seat_at i) p && leb n (get_or y.holders p 0)) pieces e in
              let q = both (is_new i said (seat_at i) k.0) (leb n (get_or y.holders k.0 0)) k.2 in
              holders-top i s said k.0 fit here a (new_is k.0 k.1 q.0) (leb-true n (get_or y.holders k.0 0) q.1)

          first : (ltb 0 (gain i said (seat_at i)) && ltb pieces ((seat_of y i).held + gain i said (seat_at i)) ≡ true)
              ⊎ ((completes i said (seat_at i) && leb n y.head.complete) || some pieces (λ p. is_new i said (seat_at i) p && leb n (get_or y.holders p 0)) ≡ true) → Damaged y (feed i s)
          first (inl e) =
              let q = both (ltb 0 (gain i said (seat_at i))) (ltb pieces ((seat_of y i).held + gain i said (seat_at i))) e in
              let w = one (ltb-true 0 (gain i said (seat_at i)) q.0) in
              held-top i s said w.0 fit here a w.1 (ltb-true pieces ((seat_of y i).held + gain i said (seat_at i)) q.1)
          first (inr e) = second (or_cases _ _ e)

    -- over_top's tests: of the pieces held, of the seats complete
    abbrev held_test : Bool
    held_test = ltb 0 (gain i said (seat_at i)) && ltb pieces ((seat_of y i).held + gain i said (seat_at i))

    abbrev complete_test : Bool
    complete_test = completes i said (seat_at i) && leb n y.head.complete

    module _ (p : ℕ) (w : New y i said p) where
      held-over : pieces < (seat_of y i).held + gained y i said → over_top n i said (seat_at i) ≡ true
      unfolding over_top
      held-over l = or-one _ _ (both_true _ _ (lt-ltb 0 (gain i said (seat_at i)) (some-new p w)) (lt-ltb pieces ((seat_of y i).held + gain i said (seat_at i)) l))

      complete-over : (seat_of y i).held + gained y i said ≡ pieces → n ≤ y.head.complete → over_top n i said (seat_at i) ≡ true
      unfolding over_top
      complete-over e l = or-other held_test _ (or-one complete_test _ (both_true _ _
          (both_true _ _ (lt-ltb 0 (gain i said (seat_at i)) (some-new p w)) (eq-eqb ((seat_of y i).held + gain i said (seat_at i)) pieces e)) (le-leb n y.head.complete l)))

      holders-over : n ≤ get_or y.holders p 0 → over_top n i said (seat_at i) ≡ true
      unfolding over_top
      holders-over l = or-other held_test _ (or-other complete_test _
          (some-has (λ q. is_new i said (seat_at i) q && leb n (get_or y.holders q 0)) pieces p w.there (both_true _ _ (is-new p w) (le-leb n (get_or y.holders p 0) l))))

  pub zero_is : (i : ℕ) → Fit y → Taken y i → at_zero_of i (seat_at i) ≡ true → Damaged y (leave i)
  unfolding at_zero_of
  zero_is i fit here e = first (or_cases _ _ e)
    where
      second : (eqb (seat_of y i).held pieces && eqb y.head.complete 0 ≡ true) ⊎ (some pieces (λ p. in_row y i p && eqb (get_or y.holders p 0) 0) ≡ true) → Damaged y (leave i)
      second (inl e) =
          let q = both (eqb (seat_of y i).held pieces) (eqb y.head.complete 0) e in
          complete-zero i fit here (eqb-true (seat_of y i).held pieces q.0) (eqb-true y.head.complete 0 q.1)
      second (inr e) =
          let k = some_one (λ p. in_row y i p && eqb (get_or y.holders p 0) 0) pieces e in
          let q = both (in_row y i k.0) (eqb (get_or y.holders k.0 0) 0) k.2 in
          holders-zero i k.0 fit here k.1 q.0 (eqb-true (get_or y.holders k.0 0) 0 q.1)

      first : (eqb y.head.taken 0 ≡ true) ⊎ ((eqb (seat_of y i).held pieces && eqb y.head.complete 0) || some pieces (λ p. in_row y i p && eqb (get_or y.holders p 0) 0) ≡ true) → Damaged y (leave i)
      first (inl e) = taken-zero i fit here (eqb-true y.head.taken 0 e)
      first (inr e) = second (or_cases _ _ e)

  is_zero : (i : ℕ) → (y.head.taken ≡ 0) ⊎ ((((seat_of y i).held ≡ pieces) × (y.head.complete ≡ 0)) ⊎ ((p : ℕ) × (p < pieces) × (in_row y i p ≡ true) × (get_or y.holders p 0 ≡ 0)))
      → at_zero_of i (seat_at i) ≡ true
  unfolding at_zero_of
  is_zero i (inl e) = or-one (eqb y.head.taken 0) _ (eq-eqb y.head.taken 0 e)
  is_zero i (inr (inl (e, f))) = or-other (eqb y.head.taken 0) _ (or-one (eqb (seat_of y i).held pieces && eqb y.head.complete 0) _
      (both_true _ _ (eq-eqb (seat_of y i).held pieces e) (eq-eqb y.head.complete 0 f)))
  is_zero i (inr (inr (p, l, e, f))) = or-other (eqb y.head.taken 0) _ (or-other (eqb (seat_of y i).held pieces && eqb y.head.complete 0) _
      (some-has (λ q. in_row y i q && eqb (get_or y.holders q 0) 0) pieces p l (both_true _ _ e (eq-eqb (get_or y.holders p 0) 0 f))))

  pub lowest-free : lowest_free y.seats < n → Free y (lowest_free y.seats)
  lowest-free l = (l, (free-lowest y.seats).lacks l)

  pub free-some : (i : ℕ) → Free y i → lowest_free y.seats < n
  free-some i f = less-or (lowest_free y.seats) n (λ l. l) (λ l. cannot _ f.1 ((free-lowest y.seats).below i (omega (arith, f.0))))

  -- ---- the test of a round: its number, the free place and the last one

  abbrev number_test : Bool
  number_test = ltb 2 y.head.round

  abbrev free_test : Bool
  free_test = not (eqb y.head.free nobody) && leb n y.head.free

  pub misplaced-is : Fit y → misplaced y.head n ≡ true → Damaged y round
  unfolding misplaced
  misplaced-is fit e = first (or_cases _ _ e)
    where
      second : (free_test ≡ true) ⊎ (leb n y.head.last ≡ true) → Damaged y round
      second (inl e) =
          let q = both (not (eqb y.head.free nobody)) (leb n y.head.free) e in
          free-nowhere fit (eqb-false y.head.free nobody (not-true (eqb y.head.free nobody) q.0)) (leb-true n y.head.free q.1)
      second (inr e) = last-nowhere fit (leb-true n y.head.last e)

      first : (number_test ≡ true) ⊎ (free_test || leb n y.head.last ≡ true) → Damaged y round
      first (inl e) = number-over fit (ltb-true 2 y.head.round e)
      first (inr e) = second (or_cases _ _ e)

  is-misplaced : (2 < y.head.round) ⊎ (((y.head.free ≡ nobody → ⊥) × (n ≤ y.head.free)) ⊎ (n ≤ y.head.last)) → misplaced y.head n ≡ true
  unfolding misplaced
  is-misplaced (inl l) = or-one number_test _ (lt-ltb 2 y.head.round l)
  is-misplaced (inr (inl (f, l))) = or-other number_test _ (or-one free_test _
      (both_true _ _ (ap not (ne_eqb y.head.free nobody f)) (le-leb n y.head.free l)))
  is-misplaced (inr (inr l)) = or-other number_test _ (or-other free_test _ (le-leb n y.head.last l))

  -- ---- a refusal by 38 or 39 has its cause

  abbrev Told : Call → Outcome Said → Type 0
  Told c (taken a) = Unit
  Told c (refused number place) = (place ≡ 0) × (number ≡ damaged → Damaged y c) × (number ≡ sizes → Unfit y c)

  abbrev Tells : Call → Turn → Type 0
  Tells c t = Told c t.answer

  plain : (c : Call) (number : ℕ) → number < sizes → Told c (refused number 0)
  plain c number l = (refl, λ e. absurd (omega arith), λ e. absurd (omega arith))

  damage : (c : Call) → Damaged y c → Told c (refused damaged 0)
  damage c d = (refl, λ e. d, λ e. absurd (omega arith))

  sized-tells : (c : Call) (i : ℕ) (t : Turn) → ((Fit y → ⊥) → Unfit y c) → (Fit y → Tells c t) → Tells c (sized n (seat_at i) t)
  sized-tells c i t f k = by-test (Tells c) fits (λ e. k (fit_is e)) (λ e. (refl, λ q. absurd (omega arith), λ q. f (λ p. cannot _ e (is-fit p))))

  sitting-tells : (c : Call) (i : ℕ) (t : Turn) → (Taken y i → Tells c t) → Tells c (sitting i n (seat_at i) t)
  sitting-tells c i t k = by-test (Tells c) (ltb i n && on (get_or y.seats i cleared).taken)
      (λ e. let q = (and-eq-true_iff (ltb i n) (on (get_or y.seats i cleared).taken)).0 e in k (ltb-true i n q.0, q.1))
      (λ e. plain c seat (omega arith))

  module _ (i : ℕ) (s : List ℕ) (fit : Fit y) (here : Taken y i) where
    block-tells : (p b k : ℕ) (a : Said) → Tells (feed i s) (block_of p b k a (seat_at i))
    unfolding block_of
    block-tells p b k a = by-test (Tells (feed i s)) (ltb p y.head.pieces)
        (λ d. by-test (Tells (feed i s)) (block_fits y.head p b k) (λ e. tt) (λ e. plain (feed i s) outside (omega arith)))
        (λ d. plain (feed i s) beyond (omega arith))

    piece-tells : (p b : ℕ) (block : List ℕ) (bytes : ℕ) → Says s (piece p b block) bytes → Tells (feed i s) (piece_of p b (length block) bytes (seat_at i))
    unfolding piece_of
    piece-tells p b block bytes f = by-test (Tells (feed i s)) (ltb p y.head.pieces)
        (λ d. by-test (Tells (feed i s)) (block_fits y.head p b (length block))
        (λ e. by-test (Tells (feed i s)) (ltb most_sent ((seat_of y i).bytes + length block))
        (λ m. damage (feed i s) (bytes-top i s p b block bytes fit here f (ltb-true p y.head.pieces d) (lies-is (piece_size y.head p) b (length block) e)
        (ltb-true most_sent ((seat_of y i).bytes + length block) m)))
        (λ m. tt))
        (λ e. plain (feed i s) outside (omega arith)))
        (λ d. plain (feed i s) beyond (omega arith))

    announce-tells : (bytes : ℕ) (said : ℕ → Bool) (rows : List ℕ) → Announces y i s said → Tells (feed i s) (announce n i bytes said rows (seat_at i))
    announce-tells bytes said rows a = by-test (Tells (feed i s)) (over_top n i said (seat_at i)) (λ e. damage (feed i s) (over-is i said s fit here a e)) (λ e. tt)

    message-tells : (m : Message (List ℕ)) (bytes : ℕ) → Says s m bytes → Tells (feed i s) (message_of n i bytes m (seat_at i))
    unfolding message_of have_of bitfield_of
    message-tells keepalive bytes f = tt
    message-tells choke bytes f = tt
    message-tells unchoke bytes f = tt
    message-tells interested bytes f = tt
    message-tells not_interested bytes f = tt
    message-tells (have p) bytes f = by-test (Tells (feed i s)) (ltb p y.head.pieces)
        (λ d. announce-tells bytes (λ q. eqb q p) (with_bit (width y.head.pieces) i p y.rows) (by-have p bytes f (ltb-true p y.head.pieces d)))
        (λ d. plain (feed i s) beyond (omega arith))
    message-tells (bits b) bytes f = by-test (Tells (feed i s)) (on (get_or y.seats i cleared).fresh)
        (λ new. by-test (Tells (feed i s)) (eqb (length b) (width y.head.pieces))
        (λ size. by-test (Tells (feed i s)) (spare_set y.head.pieces b)
        (λ d. plain (feed i s) spare (omega arith))
        (λ d. announce-tells bytes (bit_at b) (with_bits (width y.head.pieces) i b y.rows) (by-bitfield b bytes f new (eqb-true (length b) (width y.head.pieces) size) (no-spare y.head.pieces b d))))
        (λ size. plain (feed i s) bitfield (omega arith)))
        (λ old. plain (feed i s) late (omega arith))
    message-tells (request p b k) bytes f = block-tells p b k (requested bytes (get_or y.seats i cleared))
    message-tells (piece p b block) bytes f = piece-tells p b block bytes f
    message-tells (cancel p b k) bytes f = block-tells p b k (used bytes)
    message-tells (other id payload) bytes f = tt

    frame-tells : (o : Outcome Found) → read_of s ≡ o → Tells (feed i s) (frame_of n i s o (seat_at i))
    frame-tells (refused number place) e = go ((exactly s (refused number place)).0 e).0
      where
        go : ((number ≡ frame) × TooLong s) ⊎ ((number ≡ payload) × All s × (Right s → ⊥)) → Told (feed i s) (refused number 0)
        go (inl (q, t)) = plain (feed i s) number (omega arith)
        go (inr (q, a, r)) = plain (feed i s) number (omega arith)
    frame-tells (taken more) e = tt
    frame-tells (taken (found m bytes)) e = message-tells (meant s m) bytes (record { at = m; reads = e; means = refl })

  mark-tells : (c : Call) (f : Seat → Seat) (space i : ℕ) → ((Fit y → ⊥) → Unfit y c) → Tells c (mark_of f space i n (seat_at i))
  unfolding mark_of
  mark-tells c f space i u = sized-tells c i _ u (λ fit. sitting-tells c i _ (λ here. by-test (Tells c) (ltb space 5) (λ e. plain c room (omega arith)) (λ e. tt)))

  tells : (c : Call) → Told c (step c y).answer
  unfolding step start_of sit_of leave_of feed_of scarcest_of look_of has_of count_of round_of
  tells (start p l k) = by-test (λ (o : Out). Told (start p l k) o.answer) (fits_for (sizes_of p l k) y) (λ e. tt)
      (λ e. (refl, λ q. absurd (omega arith), λ q f. cannot _ e (sized-fits (sizes_of p l k) y f)))
  tells sit = sized-tells sit (lowest_free y.seats) _ (λ f. f) (λ fit. by-test (Tells sit) (leb n (lowest_free y.seats)) (λ e. plain sit full (omega arith))
      (λ e. by-test (Tells sit) (leb n y.head.taken)
      (λ d. damage sit (taken-top (lowest_free y.seats) fit (lowest-free (leb-false n (lowest_free y.seats) e)) (omega (arith, leb-true n y.head.taken d)))) (λ d. tt)))
  tells (leave i) = sized-tells (leave i) i _ (λ f. f) (λ fit. sitting-tells (leave i) i _ (λ here.
      by-test (Tells (leave i)) (at_zero_of i (seat_at i)) (λ e. damage (leave i) (zero_is i fit here e)) (λ e. tt)))
  tells (feed i s) = sized-tells (feed i s) i _ (λ f. f) (λ fit. sitting-tells (feed i s) i _ (λ here. frame-tells i s fit here (read_of s) refl))
  tells (chokes i b space) = mark-tells (chokes i b space) (we_choke b) space i (λ f. f)
  tells (interest i b space) = mark-tells (interest i b space) (we_want b) space i (λ f. f)
  tells (missing first space) = sized-tells (missing first space) 0 _ (λ f. f) (λ fit. by-test (Tells (missing first space)) (leb first n) (λ e. tt) (λ e. plain (missing first space) seat (omega arith)))
  tells scarcest = sized-tells scarcest 0 _ (λ f. f) (λ fit. tt)
  tells (look i) = sized-tells (look i) i _ (λ f. f) (λ fit. by-test (Tells (look i)) (ltb i n) (λ e. tt) (λ e. plain (look i) seat (omega arith)))
  tells (has i p) = sized-tells (has i p) i _ (λ f. f) (λ fit. by-test (Tells (has i p)) (ltb i n)
      (λ d. by-test (Tells (has i p)) (ltb p y.head.pieces) (λ e. tt) (λ e. plain (has i p) beyond (omega arith))) (λ d. plain (has i p) seat (omega arith)))
  tells (count p) = sized-tells (count p) 0 _ (λ f. f) (λ fit. by-test (Tells (count p)) (ltb p y.head.pieces) (λ e. tt) (λ e. plain (count p) beyond (omega arith)))
  tells round = by-test (λ (o : Out). Told round o.answer) fits
      (λ e. by-test (λ (o : Out). Told round o.answer) (misplaced y.head n) (λ d. damage round (misplaced-is (fit_is e) d)) (λ d. tt))
      (λ e. (refl, λ q. absurd (omega arith), λ q f. cannot _ e (is-fit f)))

  -- ---- where a cause of 38 holds it is given

  unsized : (i : ℕ) (t : Turn) → (Fit y → ⊥) → (sized n (seat_at i) t).answer ≡ refused sizes 0
  unsized i t f = ap (λ (b : Bool). (cond b t (refuse sizes (seat_at i))).answer) (false-if fits (λ e. f (fit_is e)))

  pub unfit-given : (c : Call) → Unfit y c → (step c y).answer ≡ refused sizes 0
  unfolding step start_of sit_of leave_of feed_of mark_of scarcest_of look_of has_of count_of round_of
  unfit-given (start p l k) f = rw (false-if (fits_for (sizes_of p l k) y) (λ e. f (fits-sized (sizes_of p l k) y e)))
  unfit-given sit f = unsized (lowest_free y.seats) _ f
  unfit-given (leave i) f = unsized i _ f
  unfit-given (feed i s) f = unsized i _ f
  unfit-given (chokes i b space) f = unsized i _ f
  unfit-given (interest i b space) f = unsized i _ f
  unfit-given (missing first space) f = unsized 0 _ f
  unfit-given scarcest f = unsized 0 _ f
  unfit-given (look i) f = unsized i _ f
  unfit-given (has i p) f = unsized i _ f
  unfit-given (count p) f = unsized 0 _ f
  unfit-given round f = ap (λ (o : Out). o.answer) (skip fits _ _ (false-if fits (λ e. f (fit_is e))))

  -- ---- and of 39

  pub sized-to : (i : ℕ) (t : Turn) → Fit y → sized n (seat_at i) t ≡ t
  sized-to i t f = ap (λ (b : Bool). cond b t (refuse sizes (seat_at i))) (is-fit f)

  sitting-to : (i : ℕ) (t : Turn) → Taken y i → sitting i n (seat_at i) t ≡ t
  sitting-to i t h = ap (λ (b : Bool). cond b t (refuse seat (seat_at i))) (both_true (ltb i n) (on (get_or y.seats i cleared).taken) (lt-ltb i n h.0) h.1)

  pub heard-at : (i : ℕ) (s : List ℕ) (m : Message (List ℕ)) (bytes : ℕ) → Fit y → Taken y i → Says s m bytes → feed_of i s n (seat_at i) ≡ message_of n i bytes m (seat_at i)
  unfolding feed_of
  heard-at i s m bytes fit here f =
      sized-to i _ fit ∙ sitting-to i _ here ∙ ap (λ (o : Outcome Found). frame_of n i s o (seat_at i)) f.reads
      ∙ ap (λ (q : Message (List ℕ)). message_of n i bytes q (seat_at i)) f.means

  heard-as : (i : ℕ) (s : List ℕ) (m : Message (List ℕ)) (bytes : ℕ) → Fit y → Taken y i → Says s m bytes
      → (step (feed i s) y).answer ≡ (message_of n i bytes m (seat_at i)).answer
  unfolding step
  heard-as i s m bytes fit here f = ap (λ (t : Turn). t.answer) (heard-at i s m bytes fit here f)

  -- a frame that announces a count too many
  over-given : (i : ℕ) (s : List ℕ) (said : ℕ → Bool) → Fit y → Taken y i → Announces y i s said → over_top n i said (seat_at i) ≡ true → (step (feed i s) y).answer ≡ refused damaged 0
  unfolding message_of have_of bitfield_of
  over-given i s said fit here (by-have p bytes f l) e =
      heard-as i s (have p) bytes fit here f
      ∙ ap (λ (t : Turn). t.answer) (pick (ltb p pieces) _ _ (lt-ltb p pieces l) ∙ pick (over_top n i (λ q. eqb q p) (seat_at i)) _ _ e)
  over-given i s said fit here (by-bitfield b bytes f new size none) e =
      heard-as i s (bits b) bytes fit here f
      ∙ ap (λ (t : Turn). t.answer) (pick (on (seat_of y i).fresh) _ _ new
      ∙ pick (eqb (length b) (width pieces)) _ _ (eq-eqb (length b) (width pieces) size)
      ∙ skip (spare_set pieces b) _ _ (spare-none pieces b none) ∙ pick (over_top n i (bit_at b) (seat_at i)) _ _ e)

  -- a leaving that lowers a count of 0
  zero-given : (i : ℕ) → Fit y → Taken y i → at_zero_of i (seat_at i) ≡ true → (step (leave i) y).answer ≡ refused damaged 0
  unfolding step leave_of
  zero-given i fit here e = ap (λ (t : Turn). t.answer) (sized-to i _ fit ∙ sitting-to i _ here ∙ pick (at_zero_of i (seat_at i)) _ _ e)

  -- a piece that brings too many bytes
  sent-given : (i : ℕ) (s : List ℕ) (p b : ℕ) (block : List ℕ) (bytes : ℕ) → Fit y → Taken y i → Says s (piece p b block) bytes → p < pieces
      → Block (piece_size y.head p) b (length block) → most_sent < (seat_of y i).bytes + length block → (step (feed i s) y).answer ≡ refused damaged 0
  unfolding message_of piece_of
  sent-given i s p b block bytes fit here f l d m =
      heard-as i s (piece p b block) bytes fit here f
      ∙ ap (λ (t : Turn). t.answer) (pick (ltb p pieces) _ _ (lt-ltb p pieces l)
      ∙ pick (block_fits y.head p b (length block)) _ _ (is-lies (piece_size y.head p) b (length block) d)
      ∙ pick (ltb most_sent ((seat_of y i).bytes + length block)) _ _ (lt-ltb most_sent ((seat_of y i).bytes + length block) m))

  -- a round that finds no place to go on from
  misplaced-given : Fit y → misplaced y.head n ≡ true → (step round y).answer ≡ refused damaged 0
  unfolding step round_of
  misplaced-given fit e = ap (λ (o : Out). o.answer) (pick fits _ _ (is-fit fit) ∙ pick (misplaced y.head n) _ _ e)

  pub damage-given : (c : Call) → Damaged y c → (step c y).answer ≡ refused damaged 0
  unfolding step sit_of
  damage-given c (taken-top i fit f m) = ap (λ (t : Turn). t.answer)
      (sized-to (lowest_free y.seats) _ fit ∙ skip (leb n (lowest_free y.seats)) _ _ (lt-leb n (lowest_free y.seats) (free-some i f)) ∙ pick (leb n y.head.taken) _ _ (le-leb n y.head.taken m))
  damage-given c (taken-zero i fit here e) = zero-given i fit here (is_zero i (inl e))
  damage-given c (complete-top i s said p fit here a w e l) = over-given i s said fit here a (complete-over i said p w e l)
  damage-given c (complete-zero i fit here e f) = zero-given i fit here (is_zero i (inr (inl (e, f))))
  damage-given c (holders-top i s said p fit here a w l) = over-given i s said fit here a (holders-over i said p w l)
  damage-given c (holders-zero i p fit here l e f) = zero-given i fit here (is_zero i (inr (inr (p, l, e, f))))
  damage-given c (held-top i s said p fit here a w l) = over-given i s said fit here a (held-over i said p w l)
  damage-given c (bytes-top i s p b block bytes fit here f l d m) = sent-given i s p b block bytes fit here f l d m
  damage-given c (number-over fit l) = misplaced-given fit (is-misplaced (inl l))
  damage-given c (free-nowhere fit f l) = misplaced-given fit (is-misplaced (inr (inl (f, l))))
  damage-given c (last-nowhere fit l) = misplaced-given fit (is-misplaced (inr (inr l)))

  -- ---- both directions

  pub sizes-exactly : (c : Call) (place : ℕ) → (step c y).answer ≡ refused sizes place ↔ (Unfit y c × (place ≡ 0))
  sizes-exactly c place = (λ e. let t : Told c (refused sizes place) = subst (Told c) e (tells c) in (t.2 refl, t.0), λ q. unfit-given c q.0 ∙ ap (refused sizes) (sym q.1))

  pub damaged-exactly : (c : Call) (place : ℕ) → (step c y).answer ≡ refused damaged place ↔ (Damaged y c × (place ≡ 0))
  damaged-exactly c place = (λ e. let t : Told c (refused damaged place) = subst (Told c) e (tells c) in (t.1 refl, t.0), λ q. damage-given c q.0 ∙ ap (refused damaged) (sym q.1))
