-- On any tables the causes of 20, 21, wait and 30 to 37 are those by what the tables say: each is given exactly for its cause. Assumes nothing.
use mathlib.Core.Path.{◌≡◌, refl, sym, ap, ◌∙◌}
use mathlib.Core.Logic.{◌⊎◌, inl, inr, ◌↔◌}
use mathlib.Core.Bool.{Bool, true, false, cond, ◌&&◌, and-eq-true_iff}
use mathlib.Core.List.{List}
use Prim.Native.Nat.{ℕ, ◌+◌}
use borrow.Author.Tests.{eq-eqb, eqb-true, lt-ltb, ltb-true, lt-leb, leb-true, leb-false}
use lib.Dec.{eqb, ltb, leb}
use lib.ListN.{length, get_or}
use Rattle.refusal.specs.Paper.{Outcome, taken, refused}
use Rattle.refusal.specs.Numbers.{full, sizes, damaged}
use Rattle.refusal.specs.Limits.{most_sent}
use Rattle.refusal.proofs.Cases.{no_way, by_bool, cannot, both_true, false-if}
use Rattle.peer_wire.specs.Message.{Message, keepalive, choke, unchoke, interested, not_interested, have, request, piece, cancel, other}
use Rattle.peer_wire.specs.Message.{bitfield as bits}
use Rattle.peer_wire.specs.Frames.{Found, found, read_of, meant}
use Rattle.peer_wire.specs.Frames.{wait as more}
use Rattle.yard_tables.specs.Counting.{count as count_of-all}
use Rattle.yard_tables.specs.Rows.{width, bit_at, with_bit, with_bits}
use Rattle.yard_tables.specs.Seats.{on, we_choke, we_want}
use Rattle.yard_tables.specs.Tables.{Yard, Said, wait, done, used, unchoked, Turn, Out, sized}
use Rattle.yard_tables.specs.Tables.{seated as gives_seat}
use Rattle.yard_tables.specs.Frames.{over_top, announce, have_of, spare_set, bitfield_of, block_fits, block_of, piece_of, requested, message_of, frame_of, feed_of}
use Rattle.yard_tables.specs.Rounds.{taken_in, misplaced, served_in, round_of}
use Rattle.yard_tables.specs.Seating.{start_of, lowest_free, sit_of, at_zero_of, leave_of, mark_of}
use Rattle.yard_tables.specs.Looks.{page_of, fewest, place_of, scarcest_of, has_of, count_of}
use Rattle.yard_tables.specs.Looks.{seat_of as look_of}
use Rattle.yard_tables.specs.Step.{Call, start, sit, leave, feed, interest, missing, scarcest, look, has, count, round, step}
use Rattle.yard_tables.specs.Step.{choke as chokes}
use Rattle.yard_tables.specs.declared.Seat.{Seat}
use Rattle.yard_laws.specs.History.{Sizes, sizes_of}
use Rattle.yard_laws.specs.Run.{start_with}
use Rattle.yard_laws.specs.View.{View, by_tables}
use Rattle.yard_laws.specs.Causes.{Says, CauseBy, WaitBy}
use Rattle.yard_laws.specs.Causes.CauseBy.{too_much}
use Rattle.yard_laws.specs.Expected.{no, Looks, sits_by, message_by, frame_by, block_by, piece_by, mark_by, free_by, answer_by}
use Rattle.yard_laws.specs.Damage.{Fit, seat_of, Taken, in_row, Announces, by-have, by-bitfield, Damaged}
use Rattle.yard_laws.specs.Damage.Damaged.{taken-top, taken-zero, complete-top, complete-zero, holders-top, holders-zero, held-top, bytes-top, number-over, free-nowhere, last-nowhere}
use Rattle.yard_laws.proofs.Starting.{fits_for, sized-fits, fits-sized}
use Rattle.yard_laws.proofs.Lowest.{free-is}
use Rattle.yard_laws.proofs.Damage.{seat_at, fits, fit_is, is-fit, over-is, zero_is, misplaced-is, lowest-free, free-some, sized-to, pick, skip, unfit-given, damage-given, no-spare, spare-none}
use Rattle.yard_laws.proofs.Caused as caused

-- two ways of a test with the same answers
branch : (b : Bool) (t z : Turn) (o p : Outcome Said) → (b ≡ true → t.answer ≡ o) → (b ≡ false → z.answer ≡ p) → (cond b t z).answer ≡ cond b o p
branch true t z o p f g = f refl
branch false t z o p f g = g refl

out-branch : (b : Bool) (o q : Out) → (cond b o q).answer ≡ cond b o.answer q.answer
out-branch true o q = refl
out-branch false o q = refl

-- answers that differ
pub not-both : (a : Said) (number place : ℕ) → taken a ≡ refused number place → ⊥
not-both a number place e = no_way (cc)

number_of : (m p n q : ℕ) → ◌≡◌ {A = Outcome Said} (refused m p) (refused n q) → m ≡ n
number_of m p n q e = cc

-- the call is taken, with no wait
abbrev Taking : Outcome Said → Type 0
Taking o = (a : Said) × (o ≡ taken a) × (taken a ≡ taken wait → ⊥)

done-wait : ◌≡◌ {A = Outcome Said} (taken done) (taken wait) → ⊥
done-wait e = no_way (cc)

used-wait : (bytes : ℕ) → ◌≡◌ {A = Outcome Said} (taken (used bytes)) (taken wait) → ⊥
used-wait bytes e = no_way (cc)

seat-wait : (i : ℕ) → ◌≡◌ {A = Outcome Said} (taken (gives_seat i)) (taken wait) → ⊥
seat-wait i e = no_way (cc)

round-wait : (k : ℕ) → ◌≡◌ {A = Outcome Said} (taken (unchoked k)) (taken wait) → ⊥
round-wait k e = no_way (cc)

module _ (y : Yard) where
  abbrev v : View
  v = by_tables y

  abbrev n : ℕ
  n = length y.seats

  abbrev pieces : ℕ
  pieces = y.head.pieces

  abbrev starts : Sizes → Bool
  starts z = fits_for z y

  -- what the tables show to a look
  abbrev looks : Looks
  looks = record {
    page = λ first space. page_of pieces first space y.seats;
    scarcest_piece = place_of (fewest y.holders) y.holders;
    record_at = seat_of y;
    has_it = in_row y;
    held = λ p. get_or y.holders p 0;
    unchokes = count_of-all n (λ i. taken_in y.seats i && served_in y.head y.seats i);
  }

  abbrev expected : Call → Outcome Said
  expected c = answer_by v starts looks c

  starts-yes : (z : Sizes) → v.MayStart z → starts z ≡ true
  starts-yes z f = sized-fits z y f

  starts_is : (z : Sizes) → starts z ≡ true → v.MayStart z
  starts_is z e = fits-sized z y e

  free-same : lowest_free y.seats ≡ free_by v
  free-same = free-is y.seats v.sits_at (λ i. refl)

  sits-is : (i : ℕ) → sits_by v i ≡ true → Taken y i
  sits-is i e = let q = (and-eq-true_iff (ltb i n) (on (seat_of y i).taken)).0 e in (ltb-true i n q.0, q.1)

  is-sits : (i : ℕ) → Taken y i → sits_by v i ≡ true
  is-sits i h = both_true (ltb i n) (on (seat_of y i).taken) (lt-ltb i n h.0) h.1

  -- ---- where the sizes fit and no count is damaged, the answer is the one by what the tables say

  module _ (fit : Fit y) where
    fitted : (i : ℕ) (t : Turn) (o : Outcome Said) → t.answer ≡ o → (sized n (seat_at y i) t).answer ≡ o
    fitted i t o e = ap (λ (t : Turn). t.answer) (sized-to y i t fit) ∙ e

    block_same : (i p b k : ℕ) (a : Said) → (block_of p b k a (seat_at y i)).answer ≡ block_by v p b k a
    unfolding block_of
    block_same i p b k a = branch (ltb p pieces) _ _ _ _ (λ d. branch (block_fits y.head p b k) _ _ _ _ (λ e. refl) (λ e. refl)) (λ d. refl)

    piece-same : (i p b k bytes : ℕ) → (piece_of p b k bytes (seat_at y i)).answer ≡ piece_by v i p b k bytes
    unfolding piece_of
    piece-same i p b k bytes = branch (ltb p pieces) _ _ _ _
        (λ d. branch (block_fits y.head p b k) _ _ _ _ (λ e. branch (ltb most_sent ((seat_of y i).bytes + k)) _ _ _ _ (λ m. refl) (λ m. refl)) (λ e. refl)) (λ d. refl)

    module _ (i : ℕ) (s : List ℕ) (here : Taken y i) (sound : Damaged y (feed i s) → ⊥) where
      announce-same : (bytes : ℕ) (said : ℕ → Bool) (rows : List ℕ) → Announces y i s said → (announce n i bytes said rows (seat_at y i)).answer ≡ taken (used bytes)
      announce-same bytes said rows a =
          ap (λ (t : Turn). t.answer) (skip (over_top n i said (seat_at y i)) _ _ (false-if (over_top n i said (seat_at y i)) (λ e. sound (over-is y i said s fit here a e))))

      message-same : (m : Message (List ℕ)) (bytes : ℕ) → Says s m bytes → (message_of n i bytes m (seat_at y i)).answer ≡ message_by v i bytes m
      unfolding message_of have_of bitfield_of
      message-same keepalive bytes f = refl
      message-same choke bytes f = refl
      message-same unchoke bytes f = refl
      message-same interested bytes f = refl
      message-same not_interested bytes f = refl
      message-same (have p) bytes f = branch (ltb p pieces) _ _ _ _
          (λ d. announce-same bytes (λ q. eqb q p) (with_bit (width pieces) i p y.rows) (by-have p bytes f (ltb-true p pieces d))) (λ d. refl)
      message-same (bits b) bytes f = branch (on (seat_of y i).fresh) _ _ _ _
          (λ new. branch (eqb (length b) (width pieces)) _ _ _ _
          (λ size. branch (spare_set pieces b) _ _ _ _ (λ e. refl)
          (λ e. announce-same bytes (bit_at b) (with_bits (width pieces) i b y.rows) (by-bitfield b bytes f new (eqb-true (length b) (width pieces) size) (no-spare pieces b e))))
          (λ size. refl)) (λ new. refl)
      message-same (request p b k) bytes f = block_same i p b k (requested bytes (seat_of y i))
      message-same (piece p b block) bytes f = piece-same i p b (length block) bytes
      message-same (cancel p b k) bytes f = block_same i p b k (used bytes)
      message-same (other id rest) bytes f = refl

      frame_same : (o : Outcome Found) → read_of s ≡ o → (frame_of n i s o (seat_at y i)).answer ≡ frame_by v i s o
      frame_same (refused number place) e = refl
      frame_same (taken more) e = refl
      frame_same (taken (found m bytes)) e = message-same (meant s m) bytes (record { at = m; reads = e; means = refl })

    mark-same : (f : Seat → Seat) (space i : ℕ) → (mark_of f space i n (seat_at y i)).answer ≡ mark_by v i space
    unfolding mark_of
    mark-same f space i = fitted i _ _ (branch (sits_by v i) _ _ _ _ (λ e. branch (ltb space 5) _ _ _ _ (λ e. refl) (λ e. refl)) (λ e. refl))

    same : (c : Call) → (Damaged y c → ⊥) → (step c y).answer ≡ expected c
    unfolding step start_of sit_of leave_of feed_of scarcest_of look_of has_of count_of round_of
    same (start p l k) sound = out-branch (fits_for (sizes_of p l k) y) _ _
    same sit sound =
        fitted (lowest_free y.seats) _ _ (branch (leb n (lowest_free y.seats)) _ _ _ _ (λ e. refl)
        (λ e. ap (λ (t : Turn). t.answer) (skip (leb n y.head.taken) _ _ (false-if (leb n y.head.taken)
        (λ d. sound (taken-top (lowest_free y.seats) fit (lowest-free y (leb-false n (lowest_free y.seats) e)) (leb-true n y.head.taken d)))))))
        ∙ ap (λ (k : ℕ). cond (leb n k) (no full) (taken (gives_seat k))) free-same
    same (leave i) sound = fitted i _ _ (branch (sits_by v i) _ _ _ _
        (λ e. ap (λ (t : Turn). t.answer) (skip (at_zero_of i (seat_at y i)) _ _ (false-if (at_zero_of i (seat_at y i)) (λ d. sound (zero_is y i fit (sits-is i e) d))))) (λ e. refl))
    same (feed i s) sound = fitted i _ _ (branch (sits_by v i) _ _ _ _ (λ e. frame_same i s (sits-is i e) sound (read_of s) refl) (λ e. refl))
    same (chokes i b space) sound = mark-same (we_choke b) space i
    same (interest i b space) sound = mark-same (we_want b) space i
    same (missing first space) sound = fitted 0 _ _ (branch (leb first n) _ _ _ _ (λ e. refl) (λ e. refl))
    same scarcest sound = fitted 0 _ _ refl
    same (look i) sound = fitted i _ _ (branch (ltb i n) _ _ _ _ (λ e. refl) (λ e. refl))
    same (has i p) sound = fitted i _ _ (branch (ltb i n) _ _ _ _ (λ e. branch (ltb p pieces) _ _ _ _ (λ e. refl) (λ e. refl)) (λ e. refl))
    same (count p) sound = fitted 0 _ _ (branch (ltb p pieces) _ _ _ _ (λ e. refl) (λ e. refl))
    same round sound = ap (λ (o : Out). o.answer)
        (pick (fits y) _ _ (is-fit y fit) ∙ skip (misplaced y.head n) _ _ (false-if (misplaced y.head n) (λ e. sound (misplaced-is y fit e))))

  -- ---- a damaged count means that nothing else is wrong

  announced-taken : (i : ℕ) (s : List ℕ) (said : ℕ → Bool) → Taken y i → Announces y i s said → Taking (expected (feed i s))
  announced-taken i s said here (by-have p bytes f l) =
      (used bytes, caused.frame-says v starts looks starts-yes starts_is i s (have p) bytes here f ∙ pick (ltb p pieces) _ _ (lt-ltb p pieces l), used-wait bytes)
  announced-taken i s said here (by-bitfield b bytes f new size none) = (
    used bytes,
    caused.frame-says v starts looks starts-yes starts_is i s (bits b) bytes here f
        ∙ pick (on (seat_of y i).fresh) _ _ new
        ∙ pick (eqb (length b) (width pieces)) _ _ (eq-eqb (length b) (width pieces) size)
        ∙ skip (spare_set pieces b) _ _ (spare-none pieces b none),
    used-wait bytes,
  )

  -- of the bytes of blocks the view speaks too, and where they are too many its answer is 39
  damaged-taken : (c : Call) → Damaged y c → Taking (expected c) ⊎ (expected c ≡ refused damaged 0)
  damaged-taken c (taken-top i fit f m) =
      inl (gives_seat (free_by v), skip (leb n (free_by v)) _ _ (ap (leb n) (sym free-same) ∙ lt-leb n (lowest_free y.seats) (free-some y i f)), seat-wait (free_by v))
  damaged-taken c (taken-zero i fit here e) = inl (done, pick (sits_by v i) _ _ (is-sits i here), done-wait)
  damaged-taken c (complete-top i s said p fit here a w e l) = inl (announced-taken i s said here a)
  damaged-taken c (complete-zero i fit here e f) = inl (done, pick (sits_by v i) _ _ (is-sits i here), done-wait)
  damaged-taken c (holders-top i s said p fit here a w l) = inl (announced-taken i s said here a)
  damaged-taken c (holders-zero i p fit here l e f) = inl (done, pick (sits_by v i) _ _ (is-sits i here), done-wait)
  damaged-taken c (held-top i s said p fit here a w l) = inl (announced-taken i s said here a)
  damaged-taken c (bytes-top i s p b block bytes fit here f l d m) =
      inr (caused.cause-given v starts looks starts-yes starts_is (feed i s) damaged (too_much i s p b block bytes here f l d m))
  damaged-taken c (number-over fit l) = inl (unchoked looks.unchokes, refl, round-wait looks.unchokes)
  damaged-taken c (free-nowhere fit f l) = inl (unchoked looks.unchokes, refl, round-wait looks.unchokes)
  damaged-taken c (last-nowhere fit l) = inl (unchoked looks.unchokes, refl, round-wait looks.unchokes)

  sound-if : (c : Call) (number : ℕ) → (number ≡ damaged → ⊥) → expected c ≡ refused number 0 → Damaged y c → ⊥
  sound-if c number whole e d = go (damaged-taken c d)
    where
      go : Taking (expected c) ⊎ (expected c ≡ refused damaged 0) → ⊥
      go (inl t) = not-both t.0 number 0 (sym t.1 ∙ e)
      go (inr q) = whole (number_of number 0 damaged 0 (sym e ∙ q))

  wait-sound : (c : Call) → expected c ≡ taken wait → Damaged y c → ⊥
  wait-sound c e d = go (damaged-taken c d)
    where
      go : Taking (expected c) ⊎ (expected c ≡ refused damaged 0) → ⊥
      go (inl t) = t.2 (sym t.1 ∙ e)
      go (inr q) = not-both wait damaged 0 (sym e ∙ q)

  -- ---- the sizes fit, where another refusal or a wait is given

  start-answers : (z : Sizes) → (step (start_with z) y).answer ≡ cond (fits_for z y) (taken done) (no sizes)
  unfolding step start_of
  start-answers z = out-branch (fits_for z y) _ _

  -- a start is done or refused by 38
  not_start : (z : Sizes) (o : Outcome Said) → (o ≡ refused sizes 0 → ⊥) → (o ≡ taken done → ⊥) → (step (start_with z) y).answer ≡ o → ⊥
  not_start z o f g e = by_bool (fits_for z y)
      (λ t. g (sym e ∙ start-answers z ∙ pick (fits_for z y) _ _ t))
      (λ t. f (sym e ∙ start-answers z ∙ skip (fits_for z y) _ _ t))

  -- any other call of tables that do not fit is refused by 38
  must-fit : (c : Call) (o : Outcome Said) → (o ≡ refused sizes 0 → ⊥) → (o ≡ taken done → ⊥) → (step c y).answer ≡ o → Fit y
  must-fit c o f g e = by_bool (fits y) (λ t. fit_is y t) (λ t. absurd (go c e (λ p. cannot _ t (is-fit y p))))
    where
      go : (d : Call) → (step d y).answer ≡ o → (Fit y → ⊥) → ⊥
      go (start p l k) q u = not_start (sizes_of p l k) o f g q
      go sit q u = f (sym q ∙ unfit-given y sit u)
      go (leave i) q u = f (sym q ∙ unfit-given y (leave i) u)
      go (feed i s) q u = f (sym q ∙ unfit-given y (feed i s) u)
      go (chokes i b space) q u = f (sym q ∙ unfit-given y (chokes i b space) u)
      go (interest i b space) q u = f (sym q ∙ unfit-given y (interest i b space) u)
      go (missing first space) q u = f (sym q ∙ unfit-given y (missing first space) u)
      go scarcest q u = f (sym q ∙ unfit-given y scarcest u)
      go (look i) q u = f (sym q ∙ unfit-given y (look i) u)
      go (has i p) q u = f (sym q ∙ unfit-given y (has i p) u)
      go (count p) q u = f (sym q ∙ unfit-given y (count p) u)
      go round q u = f (sym q ∙ unfit-given y round u)

  -- ---- both directions

  pub refused-exactly : (c : Call) (number place : ℕ) → (number ≡ sizes → ⊥) → (number ≡ damaged → ⊥) → (step c y).answer ≡ refused number place ↔ (Fit y × CauseBy v c number × (place ≡ 0))
  refused-exactly c number place fitting whole = (
    λ e.
        let fit = must-fit c (refused number place) (λ q. fitting (number_of number place sizes 0 q)) (λ q. not-both done number place (sym q)) e in
        let sound : Damaged y c → ⊥ = λ d. whole (number_of number place damaged 0 (sym e ∙ damage-given y c d)) in
        let k = (caused.refused-exactly v starts looks starts-yes starts_is c number place).0 (sym (same fit c sound) ∙ e) in
        (fit, k.0, k.1),
    λ (fit, k, z).
        let e : expected c ≡ refused number 0 = caused.cause-given v starts looks starts-yes starts_is c number k in
        same fit c (sound-if c number whole e) ∙ e ∙ ap (refused number) (sym z),
  )

  pub wait-exactly : (c : Call) → (step c y).answer ≡ taken wait ↔ (Fit y × WaitBy v c)
  wait-exactly c = (
    λ e.
        let fit = must-fit c (taken wait) (λ q. not-both wait sizes 0 q) (λ q. done-wait (sym q)) e in
        let sound : Damaged y c → ⊥ = λ d. not-both wait damaged 0 (sym e ∙ damage-given y c d) in
        (fit, (caused.wait-exactly-when v starts looks starts-yes starts_is c).0 (sym (same fit c sound) ∙ e)),
    λ (fit, k).
        let e : expected c ≡ taken wait = (caused.wait-exactly-when v starts looks starts-yes starts_is c).1 k in
        same fit c (wait-sound c e) ∙ e,
  )
