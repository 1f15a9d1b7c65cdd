-- The ranking of one pass is that by which a round is defined: exports chosen-few, next-is, next-right, ranked-among, ranked-four and ranked-free. Assumes nothing.
use mathlib.Core.Path.{◌≡◌, refl, sym, ap, ◌∙◌}
use mathlib.Core.Logic.{◌≢◌, ◌⊎◌, inl, inr}
use mathlib.Core.Bool.{Bool, true, false, not, cond, ◌&&◌, ◌||◌, or-true}
use mathlib.Core.List.{List, [], ◌∷◌}
use Prim.Native.Nat.{ℕ, zero, suc, ◌+◌, ◌-◌, ◌≤◌, ◌<◌}
use native.Mathlib.Nat.{not-suc-le-zero}
use native.Mathlib.Omega.{arith}
use borrow.Author.Tests.{ltb-true, ltb-false, eqb-true, eqb-false, not-true, lt-ltb, le-ltb, eq-eqb, ne_eqb}
use lib.Dec.{eqb, ltb}
use lib.ListN.{length, get_or}
use Rattle.refusal.proofs.Cases.{cannot, same_or, less-or, by_bool, by-test, both, both_true, and-not, or_cases, false-if, same_test}
use Rattle.yard_tables.specs.Counting.{bit, count, some, the_one}
use Rattle.yard_tables.specs.Seats.{cleared}
use Rattle.yard_tables.specs.Rounds.{nobody, way, is_next, next_of, free_then, before, chosen, wants_in, sent_in}
use Rattle.yard_tables.specs.Ranks.{ranking, unranked, wants_it, beaten, inserted, kept_or, noted, rank_step, rank_from, ranked, free_of, marks_of, among, four_in}
use Rattle.yard_tables.specs.declared.Head.{Head}
use Rattle.yard_tables.specs.declared.Seat.{Seat}
use Rattle.yard_tables.specs.declared.rank.Place.{Place}
use Rattle.yard_tables.specs.declared.rank.Ranking.{Ranking}
use Rattle.yard_tables.proofs.Counts.{bit_le, count-sub, count_less, count-sum, count-once, count_none, count-has, some-none, some-every}

-- ---- tests

-- how many come before the first of four that is one
first-of-four : (a b c d : Bool) → cond (not a) (1 + cond (not b) (1 + cond (not c) (1 + cond (not d) 1 0) 0) 0) 0 ≡ cond a 0 (cond b 1 (cond c 2 (cond d 3 4)))
first-of-four true b c d = refl
first-of-four false true c d = refl
first-of-four false false true d = refl
first-of-four false false false true = refl
first-of-four false false false false = refl

any-four : (a b c d : Bool) {q : Bool} → (a ≡ true → q ≡ true) → (b ≡ true → q ≡ true) → (c ≡ true → q ≡ true) → (d ≡ true → q ≡ true)
    → (a || (b || (c || d))) ≡ true → q ≡ true
any-four true b c d ha hb hc hd e = ha refl
any-four false true c d ha hb hc hd e = hb refl
any-four false false true d ha hb hc hd e = hc refl
any-four false false false d ha hb hc hd e = hd e

or_later : (a : Bool) {b : Bool} → b ≡ true → (a || b) ≡ true
or_later a e = rw e (or-true a)

-- ---- who comes before whom

module _ (W : ℕ → Bool) (B : ℕ → ℕ) where
  -- seat j comes before seat i
  abbrev ahead : ℕ → ℕ → Bool
  ahead i j = before W B i j

  ahead-wants : (i j : ℕ) → ahead i j ≡ true → W j ≡ true
  ahead-wants i j e = (both (W j) (ltb (B i) (B j) || (eqb (B j) (B i) && ltb j i)) e).0

  ahead-cases : {Q : Type 0} (i j : ℕ) → ahead i j ≡ true → (B i < B j → Q) → (B j ≡ B i → j < i → Q) → Q
  ahead-cases {Q} i j e f g = go (or_cases (ltb (B i) (B j)) (eqb (B j) (B i) && ltb j i) (both (W j) (ltb (B i) (B j) || (eqb (B j) (B i) && ltb j i)) e).1)
    where
      go : (ltb (B i) (B j) ≡ true) ⊎ ((eqb (B j) (B i) && ltb j i) ≡ true) → Q
      go (inl t) = f (ltb-true (B i) (B j) t)
      go (inr t) = let d = both (eqb (B j) (B i)) (ltb j i) t in g (eqb-true (B j) (B i) d.0) (ltb-true j i d.1)

  ahead_more : (i j : ℕ) → W j ≡ true → B i < B j → ahead i j ≡ true
  ahead_more i j w l = rw (w, lt-ltb (B i) (B j) l)

  ahead-tie : (i j : ℕ) → W j ≡ true → B j ≡ B i → j < i → ahead i j ≡ true
  ahead-tie i j w e l = rw (w, le-ltb (B i) (B j) (omega arith), eq-eqb (B j) (B i) e, lt-ltb j i l)

  ahead-self : (i : ℕ) → ahead i i ≡ false
  ahead-self i = false-if (ahead i i) (λ e. ahead-cases i i e (λ l. omega arith) (λ q l. omega arith))

  ahead-on : (i j k : ℕ) → ahead i j ≡ true → ahead j k ≡ true → ahead i k ≡ true
  ahead-on i j k a b =
      ahead-cases i j a
      (λ l. ahead-cases j k b (λ m. ahead_more i k w (omega arith)) (λ q m. ahead_more i k w (omega arith)))
      (λ p l. ahead-cases j k b (λ m. ahead_more i k w (omega arith)) (λ q m. ahead-tie i k w (q ∙ p) (omega arith)))
    where
      w : W k ≡ true
      w = ahead-wants j k b

  ahead-or : {Q : Type 0} (i j : ℕ) → W i ≡ true → W j ≡ true → i ≢ j → (ahead i j ≡ true → Q) → (ahead j i ≡ true → Q) → Q
  ahead-or i j v w d f g = less-or (B i) (B j)
      (λ l. f (ahead_more i j w l))
      (λ l. less-or (B j) (B i)
      (λ m. g (ahead_more j i v m))
      (λ m. less-or i j
      (λ q. g (ahead-tie j i v (omega arith) q))
      (λ q. f (ahead-tie i j w (omega arith) (omega arith)))))

  -- how many of the first m seats come before seat i
  abbrev rank : ℕ → ℕ → ℕ
  rank m i = count m (ahead i)

  rank_less : (m i j : ℕ) → j < m → ahead i j ≡ true → rank m j < rank m i
  rank_less m i j l a = count_less (ahead j) (ahead i) m j l (λ k. ahead-on i j k a) (ahead-self j) a

  rank-le : (m i j : ℕ) → ahead i j ≡ true → rank m j ≤ rank m i
  rank-le m i j a = count-sub (ahead j) (ahead i) m (λ k. ahead-on i j k a)

  rank-all : (m i : ℕ) → rank m i ≤ count m W
  rank-all m i = count-sub (ahead i) W m (ahead-wants i)

  rank-few : (m i : ℕ) → i < m → W i ≡ true → rank m i < count m W
  rank-few m i l w = count_less (ahead i) W m i l (ahead-wants i) (ahead-self i) w

  rank-once : (m i j : ℕ) → i < m → j < m → W i ≡ true → W j ≡ true → rank m i ≡ rank m j → i ≡ j
  rank-once m i j a b v w e = same_or i j (λ q. q)
      (λ q. ahead-or i j v w q (λ t. omega (arith, rank_less m i j b t)) (λ t. omega (arith, rank_less m j i a t)))

  -- ---- at each rank there is one at most

  module _ (n : ℕ) where
    abbrev at : ℕ → ℕ → Bool
    at k i = W i && eqb (rank n i) k

    abbrev under : ℕ → ℕ → Bool
    under k i = W i && ltb (rank n i) k

    under_none : count n (under 0) ≡ 0
    under_none = count_none (under 0) n (λ i l. and-not (W i) (ltb (rank n i) 0) (λ e. le-ltb (rank n i) 0 (omega arith)))

    under_next : (k : ℕ) → count n (under (suc k)) ≡ count n (under k) + count n (at k)
    under_next k = count-sum (under (suc k)) (under k) (at k) n (λ i. go (W i) (rank n i))
      where
        go : (w : Bool) (r : ℕ) → bit (w && ltb r (suc k)) ≡ bit (w && ltb r k) + bit (w && eqb r k)
        go false r = refl
        go true r = less-or r k
            (λ l. rw (lt-ltb r (suc k) (omega arith), lt-ltb r k l, ne_eqb r k (λ e. omega arith)))
            (λ l. same_or r k
            (λ e. rw (lt-ltb r (suc k) (omega arith), le-ltb r k l, eq-eqb r k e))
            (λ e. rw (le-ltb r (suc k) (omega arith), le-ltb r k l, ne_eqb r k e)))

    at-wants : (k i : ℕ) → at k i ≡ true → (W i ≡ true) × (rank n i ≡ k)
    at-wants k i e = let d = both (W i) (eqb (rank n i) k) e in (d.0, eqb-true (rank n i) k d.1)

    at_once : (k : ℕ) → count n (at k) ≤ 1
    at_once k = count-once (at k) n (λ i j a b p q.
        let x = at-wants k i p in let y = at-wants k j q in rank-once n i j a b x.0 y.0 (x.1 ∙ sym y.1))

    four-levels : count n (chosen n W B) ≡ count n (at 0) + count n (at 1) + count n (at 2) + count n (at 3)
    four-levels = omega (arith, under_none, under_next 0, under_next 1, under_next 2, under_next 3)

-- at most four are chosen
pub chosen-few : (n : ℕ) (W : ℕ → Bool) (B : ℕ → ℕ) → count n (chosen n W B) ≤ 4
chosen-few n W B = omega (arith, four-levels W B n, at_once W B n 0, at_once W B n 1, at_once W B n 2, at_once W B n 3)

-- ---- the first below n that has it, or nobody

module _ (P : ℕ → Bool) where
  data First (n x : ℕ) : Type 0 where
    none : x ≡ nobody → ((k : ℕ) → k < n → P k ≡ false) → First n x
    one : x < n → P x ≡ true → ((k : ℕ) → k < x → P k ≡ false) → First n x

  first-start : First 0 nobody
  first-start = none refl (λ k l. absurd (not-suc-le-zero l))

  first-skip : (m x : ℕ) → P m ≡ false → First m x → First (suc m) x
  first-skip m x e (none q h) = none q (λ k l. same_or k m (λ s. rw s e) (λ s. h k (omega arith)))
  first-skip m x e (one l w h) = one (omega arith) w h

  first_next : (m x : ℕ) (b : Bool) → m < nobody → P m ≡ b → First m x → First (suc m) (kept_or x b m)
  first_next m x false l e (none q h) = rw (eq-eqb x nobody q) (first-skip m x e (none q h))
  first_next m x true l e (none q h) = rw (eq-eqb x nobody q) (one (omega arith) e h)
  first_next m x b l e (one s w h) = rw (ne_eqb x nobody (λ q. omega arith)) (one (omega arith) w h)

  first_of : (n : ℕ) → n ≤ nobody → (x : ℕ) × First n x
  first_of zero l = (nobody, first-start)
  first_of (suc n) l = let r = first_of n (omega arith) in (kept_or r.0 (P n) n, first_next n r.0 (P n) (omega arith) refl r.1)

-- ---- the next seat

module _ (f : ℕ → Bool) where
  the-one-is : (n k other : ℕ) → k < n → f k ≡ true → ((j : ℕ) → j < n → f j ≡ true → j ≡ k) → the_one n f other ≡ k
  the-one-is zero k other l e h = absurd (not-suc-le-zero l)
  the-one-is (suc n) k other l e h = by_bool (f n)
      (λ t. rw t (h n (omega arith) t))
      (λ t. rw t (the-one-is n k other (same_or k n (λ q. cannot (f n) t (rw q at e)) (λ q. omega arith)) e (λ j m. h j (omega arith))))

  the-one-none : (n other : ℕ) → ((j : ℕ) → j < n → f j ≡ false) → the_one n f other ≡ other
  the-one-none zero other h = refl
  the-one-none (suc n) other h = rw (h n (omega arith)) (the-one-none n other (λ j l. h j (omega arith)))

module _ (n : ℕ) (W : ℕ → Bool) (last : ℕ) (below : last < n) where
  way_up : (j : ℕ) → last < j → way n last j ≡ j - (last + 1)
  way_up j l = rw (lt-ltb last j l)

  way_down : (j : ℕ) → j ≤ last → way n last j ≡ j + n - (last + 1)
  way_down j l = rw (le-ltb last j l)

  way-once : (i j : ℕ) → i < n → j < n → way n last i ≡ way n last j → i ≡ j
  way-once i j a b e = less-or last i
      (λ l. less-or last j
      (λ m. omega (arith, way_up i l, way_up j m))
      (λ m. omega (arith, way_up i l, way_down j m)))
      (λ l. less-or last j
      (λ m. omega (arith, way_down i l, way_up j m))
      (λ m. omega (arith, way_down i l, way_down j m)))

  abbrev sooner : ℕ → ℕ → Bool
  sooner i j = W j && ltb (way n last j) (way n last i)

  -- a seat that wants the uplink, and is reached no later than any other that does, is the next one
  pub next-is : (k : ℕ) → k < n → W k ≡ true → ((j : ℕ) → j < n → W j ≡ true → way n last k ≤ way n last j) → next_of n W last ≡ k
  next-is k l w h = the-one-is (is_next n W last) n k nobody l mine theirs
    where
      mine : is_next n W last k ≡ true
      mine = rw (w, some-none (sooner k) n (λ j m. and-not (W j) (ltb (way n last j) (way n last k)) (λ e. le-ltb (way n last j) (way n last k) (h j m e))))

      theirs : (j : ℕ) → j < n → is_next n W last j ≡ true → j ≡ k
      theirs j m e =
          let d = both (W j) (not (some n (sooner j))) e in
          let s = some-every (sooner j) n (not-true (some n (sooner j)) d.1) k l in
          let u : ltb (way n last k) (way n last j) ≡ false = rw w at s in
          way-once j k m l (omega (arith, h j m d.0, ltb-false (way n last k) (way n last j) u))

  -- x is nobody, where none wants the uplink; or it wants it, and none that does is reached sooner
  abbrev NextAt : ℕ → Type 0
  NextAt x =
      ((x ≡ nobody) × ((k : ℕ) → k < n → W k ≡ false))
      ⊎ ((x < n) × (W x ≡ true) × ((j : ℕ) → j < n → W j ≡ true → way n last x ≤ way n last j))

  next-of : (x : ℕ) → NextAt x → next_of n W last ≡ x
  next-of x (inl d) = the-one-none (is_next n W last) n nobody (λ j l. rw (d.1 j l)) ∙ sym d.0
  next-of x (inr d) = next-is x d.0 d.1 d.2

  -- what is found in one pass
  abbrev above : ℕ → Bool
  above j = W j && ltb last j

  found-next : n ≤ nobody → (a b : ℕ) → First above n a → First W n b → NextAt (cond (eqb a nobody) b a)
  found-next t a b (one l w h) f =
      let d = both (W a) (ltb last a) w in
      let u : last < a = ltb-true last a d.1 in
      rw (ne_eqb a nobody (λ e. omega arith))
      (inr (
        l,
        d.0,
        (λ j m v. less-or last j
            (λ p. less-or j a
            (λ q. cannot (above j) (h j q) (both_true (W j) (ltb last j) v (lt-ltb last j p)))
            (λ q. omega (arith, way_up a u, way_up j p)))
            (λ p. omega (arith, way_up a u, way_down j p))),
      ))
  found-next t a b (none e h) (one l w g) =
      rw (eq-eqb a nobody e)
      (inr (
        l,
        w,
        (λ j m v. less-or j b
            (λ q. cannot (W j) (g j q) v)
            (λ q. omega (arith, way_down b (lower b l w), way_down j (lower j m v)))),
      ))
    where
      lower : (j : ℕ) → j < n → W j ≡ true → j ≤ last
      lower j m v = less-or last j (λ p. cannot (above j) (h j m) (both_true (W j) (ltb last j) v (lt-ltb last j p))) (λ p. p)
  found-next t a b (none e h) (none q g) = rw (eq-eqb a nobody e) (inl (q, g))

  -- the next seat is nobody, where none wants the uplink; or it wants it, and none that does is reached sooner
  pub next-right : n ≤ nobody
      → ((next_of n W last ≡ nobody) × ((k : ℕ) → k < n → W k ≡ false))
      ⊎ ((next_of n W last < n) × (W (next_of n W last) ≡ true) × ((j : ℕ) → j < n → W j ≡ true → way n last (next_of n W last) ≤ way n last j))
  next-right t =
      let a = first_of above n t in
      let b = first_of W n t in
      go (found-next t a.0 b.0 a.1 b.1)
    where
      go : {x : ℕ} → NextAt x → NextAt (next_of n W last)
      go {x} d = rw (next-of x d) d

-- ---- the pass

module _ (last : ℕ) (W : ℕ → Bool) (B : ℕ → ℕ) where
  -- the place of rank k among the first m seats: nobody, where no more than k want it; or the seat that k come before
  data Holds (m k : ℕ) (p : Place) : Type 0 where
    empty : p.seat ≡ nobody → count m W ≤ k → Holds m k p
    full : p.seat < m → W p.seat ≡ true → p.bytes ≡ B p.seat → rank W B m p.seat ≡ k → Holds m k p

  abbrev after : ℕ → ℕ → Bool
  after l j = W j && ltb l j

  record Standing (m : ℕ) (r : Ranking) : Type 0 where
    first : Holds m 0 r.first
    second : Holds m 1 r.second
    third : Holds m 2 r.third
    fourth : Holds m 3 r.fourth
    lowest : First W m r.lowest
    next : First (after last) m r.next

  stand-start : Standing 0 unranked
  stand-start = record {
    first = empty refl (omega arith);
    second = empty refl (omega arith);
    third = empty refl (omega arith);
    fourth = empty refl (omega arith);
    lowest = first-start W;
    next = first-start (after last);
  }

  module _ (m : ℕ) (few : m < nobody) where
    -- seat m does not want it
    hold-skip : (k : ℕ) (p : Place) → W m ≡ false → Holds m k p → Holds (suc m) k p
    hold-skip k p e (empty q c) = let z : bit (W m) ≡ 0 = ap bit e in empty q (omega arith)
    hold-skip k p e (full l w b r) =
        let z : bit (ahead W B p.seat m) ≡ 0 = rw e in full (omega arith) w b (omega arith)

    stand-skip : (r : Ranking) → W m ≡ false → Standing m r → Standing (suc m) r
    stand-skip r e s = record {
      first = hold-skip 0 r.first e s.first;
      second = hold-skip 1 r.second e s.second;
      third = hold-skip 2 r.third e s.third;
      fourth = hold-skip 3 r.fourth e s.fourth;
      lowest = first-skip W m r.lowest e s.lowest;
      next = first-skip (after last) m r.next (rw e) s.next;
    }

    -- or it does
    module _ (wants : W m ≡ true) where
      abbrev new : Place
      new = record { seat = m; bytes = B m }

      mine : ℕ
      mine = rank W B m m

      beaten-yes : (k : ℕ) (p : Place) → Holds m k p → beaten p new ≡ true → mine ≤ k
      unfolding mine
      beaten-yes k p (empty q c) e = omega (arith, rank-all W B m m)
      beaten-yes k p (full l w b r) e =
          let f : ltb p.bytes (B m) ≡ true = rw (ne_eqb p.seat nobody (λ q. omega arith)) at e in
          let g : B p.seat < B m = omega (arith, ltb-true p.bytes (B m) f) in
          omega (arith, rank-le W B m p.seat m (ahead_more W B p.seat m wants g))

      beaten-no : (k : ℕ) (p : Place) → Holds m k p → beaten p new ≡ false → k < mine
      unfolding mine
      beaten-no k p (empty q c) e = cannot true (rw (eq-eqb p.seat nobody q) at e) refl
      beaten-no k p (full l w b r) e =
          let f : ltb p.bytes (B m) ≡ false = rw (ne_eqb p.seat nobody (λ q. omega arith)) at e in
          let g : B m ≤ B p.seat = omega (arith, ltb-false p.bytes (B m) f) in
          omega (
            arith,
            rank_less W B m m p.seat l (less-or (B m) (B p.seat)
                (λ u. ahead_more W B m p.seat w u)
                (λ u. ahead-tie W B m p.seat w (omega arith) l)),
          )

      hold-stay : (k : ℕ) (p : Place) → Holds m k p → k < mine → Holds (suc m) k p
      unfolding mine
      hold-stay k p (empty q c) l = absurd (omega (arith, rank-all W B m m))
      hold-stay k p (full l w b r) s =
          let z : bit (ahead W B p.seat m) ≡ 0 = ap bit (false-if (ahead W B p.seat m) (λ t. omega (arith, rank-le W B m p.seat m t))) in
          full (omega arith) w b (omega arith)

      hold-down : (k : ℕ) (p : Place) → Holds m k p → mine ≤ k → Holds (suc m) (suc k) p
      unfolding mine
      hold-down k p (empty q c) l = empty q (omega (arith, bit_le (W m)))
      hold-down k p (full l w b r) s =
          let t : ahead W B p.seat m ≡ true = ahead-or W B p.seat m w wants (omega arith) (λ x. x) (λ x. absurd (omega (arith, rank_less W B m m p.seat l x))) in
          let z : bit (ahead W B p.seat m) ≡ 1 = ap bit t in
          full (omega arith) w b (omega arith)

      hold-new : (k : ℕ) → mine ≡ k → Holds (suc m) k new
      unfolding mine
      hold-new k e = let z : bit (ahead W B m m) ≡ 0 = ap bit (ahead-self W B m) in full (omega arith) wants refl (omega arith)

      stand-new : (r : Ranking) → Standing m r → Standing (suc m) (inserted new (noted last m r))
      stand-new r s =
          by-test (Standing (suc m)) (beaten r.fourth new)
          (λ e4. let y4 = beaten-yes 3 r.fourth s.fourth e4 in
          by-test (Standing (suc m)) (beaten r.third new)
          (λ e3. let y3 = beaten-yes 2 r.third s.third e3 in
          by-test (Standing (suc m)) (beaten r.second new)
          (λ e2. let y2 = beaten-yes 1 r.second s.second e2 in
          by-test (Standing (suc m)) (beaten r.first new)
          (λ e1. let y1 = beaten-yes 0 r.first s.first e1 in
          put new r.first r.second r.third (hold-new 0 (omega arith)) (hold-down 0 r.first s.first y1) (hold-down 1 r.second s.second y2) (hold-down 2 r.third s.third y3))
          (λ e1. let n1 = beaten-no 0 r.first s.first e1 in
          put r.first new r.second r.third (hold-stay 0 r.first s.first n1) (hold-new 1 (omega arith)) (hold-down 1 r.second s.second y2) (hold-down 2 r.third s.third y3)))
          (λ e2. let n2 = beaten-no 1 r.second s.second e2 in
          put r.first r.second new r.third (hold-stay 0 r.first s.first (omega arith)) (hold-stay 1 r.second s.second n2) (hold-new 2 (omega arith)) (hold-down 2 r.third s.third y3)))
          (λ e3. let n3 = beaten-no 2 r.third s.third e3 in
          put r.first r.second r.third new (hold-stay 0 r.first s.first (omega arith)) (hold-stay 1 r.second s.second (omega arith)) (hold-stay 2 r.third s.third n3) (hold-new 3 (omega arith))))
          (λ e4. let n4 = beaten-no 3 r.fourth s.fourth e4 in
          put r.first r.second r.third r.fourth (hold-stay 0 r.first s.first (omega arith)) (hold-stay 1 r.second s.second (omega arith)) (hold-stay 2 r.third s.third (omega arith)) (hold-stay 3 r.fourth s.fourth n4))
        where
          put : (a b c d : Place) → Holds (suc m) 0 a → Holds (suc m) 1 b → Holds (suc m) 2 c → Holds (suc m) 3 d
              → Standing (suc m) (ranking a b c d (kept_or r.lowest true m) (kept_or r.next (ltb last m) m))
          put a b c d ha hb hc hd = record {
            first = ha;
            second = hb;
            third = hc;
            fourth = hd;
            lowest = first_next W m r.lowest true few wants s.lowest;
            next = first_next (after last) m r.next (ltb last m) few (rw wants) s.next;
          }

    stand-step : (x : Seat) (r : Ranking) → wants_it x ≡ W m → x.bytes ≡ B m → Standing m r → Standing (suc m) (rank_step last r x m)
    unfolding rank_step
    stand-step x r e b s = by-test (Standing (suc m)) (wants_it x) (λ t. rw b (stand-new (sym e ∙ t) r s)) (λ t. stand-skip r (sym e ∙ t) s)

  -- along the seats
  stand-from : (ss : List Seat) (i : ℕ) (r : Ranking) → i + length ss ≤ nobody
      → ((k : ℕ) → k < length ss → (wants_it (get_or ss k cleared) ≡ W (i + k)) × ((get_or ss k cleared).bytes ≡ B (i + k)))
      → Standing i r → Standing (i + length ss) (rank_from last ss i r)
  unfolding rank_from
  stand-from [] i r l h s = let e : i + 0 ≡ i = omega arith in rw e s
  stand-from (x ∷ ss) i r l h s =
      let e : i + suc (length ss) ≡ suc i + length ss = omega arith in
      let z : i + 0 ≡ i = omega arith in
      let t = rw z at (h 0 (omega arith)) in
      rw e (stand-from ss (suc i) (rank_step last r x i) (omega arith)
      (λ k m. let q : i + suc k ≡ suc i + k = omega arith in rw q at (h (suc k) (omega arith)))
      (stand-step i (omega arith) x r t.0 t.1 s))

  -- ---- what stands at the end

  module _ (n : ℕ) (few : n ≤ nobody) where
    hold-seat : (k i : ℕ) (p : Place) → k < 4 → i < n → Holds n k p → eqb i p.seat ≡ true → chosen n W B i ≡ true
    hold-seat k i p l m (empty q c) e = absurd (omega (arith, eqb-true i p.seat e))
    hold-seat k i p l m (full a w b r) e =
        let q : i ≡ p.seat = eqb-true i p.seat e in
        rw q (both_true (W p.seat) (ltb (rank W B n p.seat) 4) w (lt-ltb (rank W B n p.seat) 4 (omega arith)))

    hold-rank : (k i : ℕ) (p : Place) → i < n → W i ≡ true → rank W B n i ≡ k → Holds n k p → eqb i p.seat ≡ true
    hold-rank k i p l w e (empty q c) = absurd (omega (arith, rank-few W B n i l w))
    hold-rank k i p l w e (full a v b r) = eq-eqb i p.seat (rank-once W B n i p.seat l a w v (e ∙ sym r))

    -- the four are those chosen
    stand-among : (r : Ranking) (free i : ℕ) → Standing n r → i < n → among (marks_of r free) i ≡ chosen n W B i
    stand-among r free i s l = same_test (among (marks_of r free) i) (chosen n W B i) there back
      where
        there : among (marks_of r free) i ≡ true → chosen n W B i ≡ true
        there e = any-four (eqb i r.first.seat) (eqb i r.second.seat) (eqb i r.third.seat) (eqb i r.fourth.seat)
            (hold-seat 0 i r.first (omega arith) l s.first)
            (hold-seat 1 i r.second (omega arith) l s.second)
            (hold-seat 2 i r.third (omega arith) l s.third)
            (hold-seat 3 i r.fourth (omega arith) l s.fourth)
            e

        back : chosen n W B i ≡ true → among (marks_of r free) i ≡ true
        back e =
            let d = both (W i) (ltb (rank W B n i) 4) e in
            let f : rank W B n i < 4 = ltb-true (rank W B n i) 4 d.1 in
            same_or (rank W B n i) 0
            (λ q. rw (hold-rank 0 i r.first l d.0 q s.first))
            (λ q0. or_later (eqb i r.first.seat) (same_or (rank W B n i) 1
            (λ q. rw (hold-rank 1 i r.second l d.0 q s.second))
            (λ q1. or_later (eqb i r.second.seat) (same_or (rank W B n i) 2
            (λ q. rw (hold-rank 2 i r.third l d.0 q s.third))
            (λ q2. or_later (eqb i r.third.seat) (hold-rank 3 i r.fourth l d.0 (omega arith) s.fourth))))))

    hold-none : (k : ℕ) (p : Place) → Holds n k p → eqb p.seat nobody ≡ true → count n W ≤ k
    hold-none k p (empty q c) e = c
    hold-none k p (full l w b r) e = absurd (omega (arith, eqb-true p.seat nobody e))

    hold-one : (k : ℕ) (p : Place) → Holds n k p → eqb p.seat nobody ≡ false → count n (at W B n k) ≡ 1
    hold-one k p (empty q c) e = absurd (eqb-false p.seat nobody e q)
    hold-one k p (full l w b r) e =
        let z : bit (at W B n k p.seat) ≡ 1 = rw (w, eq-eqb (rank W B n p.seat) k r) in
        omega (arith, at_once W B n k, count-has (at W B n k) n p.seat l)

    at_none : (k : ℕ) → count n W ≤ k → count n (at W B n k) ≡ 0
    at_none k l = count_none (at W B n k) n (λ i m. and-not (W i) (eqb (rank W B n i) k) (λ w. ne_eqb (rank W B n i) k (λ e. omega (arith, rank-few W B n i m w))))

    -- and so many
    stand-four : (r : Ranking) (free : ℕ) → Standing n r → four_in (marks_of r free) ≡ count n (chosen n W B)
    stand-four r free s =
        first-of-four (eqb r.first.seat nobody) (eqb r.second.seat nobody) (eqb r.third.seat nobody) (eqb r.fourth.seat nobody)
        ∙ by-test (λ (x : ℕ). x ≡ count n (chosen n W B)) (eqb r.first.seat nobody)
        (λ e1. let c = hold-none 0 r.first s.first e1 in
        omega (arith, four-levels W B n, at_none 0 (omega arith), at_none 1 (omega arith), at_none 2 (omega arith), at_none 3 (omega arith)))
        (λ e1. by-test (λ (x : ℕ). x ≡ count n (chosen n W B)) (eqb r.second.seat nobody)
        (λ e2. let c = hold-none 1 r.second s.second e2 in
        omega (arith, four-levels W B n, hold-one 0 r.first s.first e1, at_none 1 (omega arith), at_none 2 (omega arith), at_none 3 (omega arith)))
        (λ e2. by-test (λ (x : ℕ). x ≡ count n (chosen n W B)) (eqb r.third.seat nobody)
        (λ e3. let c = hold-none 2 r.third s.third e3 in
        omega (arith, four-levels W B n, hold-one 0 r.first s.first e1, hold-one 1 r.second s.second e2, at_none 2 (omega arith), at_none 3 (omega arith)))
        (λ e3. by-test (λ (x : ℕ). x ≡ count n (chosen n W B)) (eqb r.fourth.seat nobody)
        (λ e4. let c = hold-none 3 r.fourth s.fourth e4 in
        omega (arith, four-levels W B n, hold-one 0 r.first s.first e1, hold-one 1 r.second s.second e2, hold-one 2 r.third s.third e3, at_none 3 (omega arith)))
        (λ e4. omega (arith, four-levels W B n, hold-one 0 r.first s.first e1, hold-one 1 r.second s.second e2, hold-one 2 r.third s.third e3, hold-one 3 r.fourth s.fourth e4)))))

-- ---- of the tables

module _ (seats : List Seat) (few : length seats ≤ nobody) where
  standing : (last : ℕ) → Standing last (wants_in seats) (sent_in seats) (length seats) (ranked last seats)
  standing last =
      let e : 0 + length seats ≡ length seats = omega arith in
      rw e at (stand-from last (wants_in seats) (sent_in seats) seats 0 unranked (omega arith)
      (λ k l. let z : 0 + k ≡ k = omega arith in rw z (refl, refl))
      (stand-start last (wants_in seats) (sent_in seats)))

  -- the four are those chosen, and so many
  pub ranked-among : (last free i : ℕ) → i < length seats → among (marks_of (ranked last seats) free) i ≡ chosen (length seats) (wants_in seats) (sent_in seats) i
  ranked-among last free i l = stand-among last (wants_in seats) (sent_in seats) (length seats) few (ranked last seats) free i (standing last) l

  pub ranked-four : (last free : ℕ) → four_in (marks_of (ranked last seats) free) ≡ count (length seats) (chosen (length seats) (wants_in seats) (sent_in seats))
  ranked-four last free = stand-four last (wants_in seats) (sent_in seats) (length seats) few (ranked last seats) free (standing last)

  -- the free place is the one that a round gives
  pub ranked-free : (h : Head) → h.last < length seats → free_of h (ranked h.last seats) ≡ free_then (length seats) (wants_in seats) h.round h.free h.last
  ranked-free h l =
      let s = standing h.last in
      ap (λ (x : ℕ). cond (eqb h.round 0) x h.free)
      (sym (next-of (length seats) (wants_in seats) h.last l _ (found-next (length seats) (wants_in seats) h.last l few (ranked h.last seats).next (ranked h.last seats).lowest s.next s.lowest)))
