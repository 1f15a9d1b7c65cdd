-- What the passes of a round leave is what a round is defined to leave: exports round-turns. Assumes nothing.
use mathlib.Core.Path.{◌≡◌, refl, sym, ap, ◌∙◌}
use mathlib.Core.Logic.{◌≢◌, ◌⊎◌, inl, inr}
use mathlib.Core.Bool.{Bool, true, false, not, cond, ◌&&◌, ◌||◌, or_comm}
use mathlib.Core.List.{List}
use Prim.Native.Nat.{ℕ, zero, suc, min, ◌≤◌, ◌<◌}
use native.Mathlib.Nat.{min-eq_left}
use native.Mathlib.Omega.{arith}
use borrow.Author.Tests.{ltb-false, leb-false, eqb-true, eq-eqb, ne_eqb}
use lib.Dec.{eqb, ltb, leb}
use lib.ListN.{length, get_or, get_or-eq_default}
use Rattle.refusal.proofs.Cases.{cannot, less-or, by_bool, by-test, both, or_left, or_right}
use Rattle.refusal.specs.Numbers.{sizes, damaged}
use Rattle.refusal.specs.Paper.{taken, refused}
use Rattle.yard_tables.specs.Counting.{bit, count, some, each}
use Rattle.yard_tables.specs.Seats.{on, cleared, placed}
use Rattle.yard_tables.specs.Tables.{Out, unchoked, yard_of, sizes_fit}
use Rattle.yard_tables.specs.Rounds.{nobody, next_of, free_then, before, chosen, served, next_round, taken_in, wants_in, sent_in, round_seat, misplaced, head_after, served_in, round_of}
use Rattle.yard_tables.specs.Ranks.{ranked, free_of, next_number, head_of, marks_of, among, mark_step, count_of, turned}
use Rattle.yard_tables.specs.declared.Head.{Head}
use Rattle.yard_tables.specs.declared.Seat.{Seat}
use Rattle.yard_tables.specs.declared.rank.Ranking.{Ranking}
use Rattle.yard_tables.specs.declared.round.Marks.{Marks}
use Rattle.yard_tables.specs.declared.round.Turned.{Turned}
use Rattle.yard_tables.proofs.Counts.{count-ext, count-or, count_none, some-none, some-every}
use Rattle.yard_tables.proofs.Single.{count-only}
use Rattle.yard_tables.proofs.Sizing.{fitting}
use Rattle.yard_tables.proofs.Sweeps.{each-ext}
use Rattle.yard_tables.proofs.Ranks.{next-right, ranked-among, ranked-four, ranked-free}

-- ---- each seat

-- where the four are among those with t
taken-or : (t f e : Bool) → (f ≡ true → t ≡ true) → (t && (f || e)) ≡ (f || (e && t))
taken-or true true e h = refl
taken-or true false true h = refl
taken-or true false false h = refl
taken-or false true e h = cannot false refl (h refl)
taken-or false false true h = refl
taken-or false false false h = refl

-- ---- the marks, and how many are unchoked, whosever the free place is

module _ (seats : List Seat) (few : length seats ≤ nobody) (last free : ℕ) where
  abbrev n : ℕ
  n = length seats

  abbrev four : ℕ → Bool
  four = chosen n (wants_in seats) (sent_in seats)

  abbrev serves : ℕ → Bool
  serves = served n (wants_in seats) (sent_in seats) free

  abbrev picked : Marks
  picked = marks_of (ranked last seats) free

  seats-are : each (λ i s. mark_step picked s i) seats ≡ each (λ i s. round_seat (serves i) s) seats
  unfolding mark_step
  seats-are = each-ext cleared (λ i s. mark_step picked s i) (λ i s. round_seat (serves i) s) seats
      (λ k l. ap (λ (b : Bool). round_seat b (get_or seats k cleared))
      (or_comm (eqb k free) (among picked k) ∙ ap (λ (b : Bool). b || eqb k free) (ranked-among seats few last free k l)))

  four-taken : (i : ℕ) → four i ≡ true → taken_in seats i ≡ true
  four-taken i e =
      let w = (both (wants_in seats i) (ltb (count n (before (wants_in seats) (sent_in seats) i)) 4) e).0 in
      (both (taken_in seats i) (on (get_or seats i cleared).peer_interested) w).0

  abbrev beside : ℕ → Bool
  beside i = (eqb i free && taken_in seats i) && not (four i)

  beside-only : (k : ℕ) → k ≢ free → beside k ≡ false
  beside-only k d = rw (ne_eqb k free d)

  holder-counts : count n beside ≡ bit (taken_in seats free && not (among picked free))
  holder-counts = less-or free n
      (λ l. count-only beside free beside-only n l ∙ rw (eq-eqb free free refl, ranked-among seats few last free free l))
      (λ l. let e : taken_in seats free ≡ false = ap (λ (s : Seat). on s.taken) (get_or-eq_default seats cleared l) in
      count_none beside n (λ k m. beside-only k (λ q. omega arith)) ∙ rw e)

  count-is : count_of picked (get_or seats free cleared) ≡ count n (λ i. taken_in seats i && serves i)
  count-is =
      let a = count-ext (λ i. taken_in seats i && serves i) (λ i. four i || (eqb i free && taken_in seats i)) n
      (λ k l. taken-or (taken_in seats k) (four k) (eqb k free) (four-taken k)) in
      let b = count-or four (λ i. eqb i free && taken_in seats i) n in
      omega (arith, a, b, holder-counts, ranked-four seats few last free)

-- ---- the head

next-number : (r : ℕ) → r ≤ 2 → next_number r ≡ next_round r
next-number zero l = refl
next-number (suc zero) l = refl
next-number (suc (suc zero)) l = refl
next-number (suc (suc (suc r))) l = absurd (omega arith)

placed_same : (h : Head) {a b c r f l : ℕ} → a ≡ r → b ≡ f → c ≡ l → placed a b c h ≡ placed r f l h
placed_same h p q s = rw (p, q, s)

module _ (n : ℕ) (W : ℕ → Bool) (last : ℕ) (there : last < n) (few : n ≤ nobody) where
  next_le : next_of n W last ≤ nobody
  next_le = go (next-right n W last there few)
    where
      go : {x : ℕ} {A B C : Type 0} → ((x ≡ nobody) × A) ⊎ ((x < n) × B × C) → x ≤ nobody
      go (inl d) = omega (arith, d.0)
      go (inr d) = omega (arith, d.0)

  next-some : not (eqb (next_of n W last) nobody) ≡ some n W
  next-some = go (next-right n W last there few)
    where
      go : {x : ℕ} {A : Type 0} → ((x ≡ nobody) × ((k : ℕ) → k < n → W k ≡ false)) ⊎ ((x < n) × (W x ≡ true) × A) → not (eqb x nobody) ≡ some n W
      go {x} (inl d) = rw (eq-eqb x nobody d.0, some-none W n d.1)
      go {x} (inr d) = rw (ne_eqb x nobody (λ q. omega (arith, d.0))) (sym (by_bool (some n W) (λ t. t) (λ t. cannot (W x) (some-every W n t x d.0) d.1)))

  last-is : (b : Bool) (free : ℕ) → cond (b && not (eqb (cond b (next_of n W last) free) nobody)) (min (cond b (next_of n W last) free) nobody) last ≡ cond (b && some n W) (next_of n W last) last
  last-is true free = rw (next-some, min-eq_left next_le)
  last-is false free = refl

module _ (h : Head) (seats : List Seat) (few : length seats ≤ nobody) (number : h.round ≤ 2) (there : h.last < length seats) (holder : h.free ≤ nobody) where
  abbrev free : ℕ
  free = free_then (length seats) (wants_in seats) h.round h.free h.last

  free-le : free ≤ nobody
  free-le = by-test (λ (x : ℕ). x ≤ nobody) (eqb h.round 0) (λ e. next_le (length seats) (wants_in seats) h.last there few) (λ e. holder)

  head-is : head_of h free ≡ head_after h seats
  head-is = placed_same h (next-number h.round number) (min-eq_left free-le) (last-is (length seats) (wants_in seats) h.last there few (eqb h.round 0) h.free)

-- ---- the round

module _ (h : Head) (seats : List Seat) (rows holders : List ℕ) where
  abbrev leaving : ℕ → Head → List Seat → Out
  leaving k head l = record { answer = taken (unchoked k); yard = yard_of head l rows holders }

  abbrev refusing : ℕ → Out
  refusing k = record { answer = refused k 0; yard = yard_of h seats rows holders }

  leaving-same : {k k' : ℕ} {g g' : Head} {l l' : List Seat} → k ≡ k' → g ≡ g' → l ≡ l' → leaving k g l ≡ leaving k' g' l'
  leaving-same p q r = rw (p, q, r)

  -- what a round comes to, where the free place's seat is `free`
  abbrev turning : ℕ → Out
  turning free = let t : Turned = turned h (ranked h.last seats) free (get_or seats free cleared) in leaving t.unchoked t.head (each (λ i s. mark_step t.marks s i) seats)

  taken-turn : length seats ≤ nobody → h.round ≤ 2 → h.last < length seats → h.free ≤ nobody
      → turning (free_of h (ranked h.last seats))
      ≡ leaving (count (length seats) (λ i. taken_in seats i && served_in h seats i)) (head_after h seats) (each (λ i s. round_seat (served_in h seats i) s) seats)
  taken-turn few number there holder =
      ap turning (ranked-free seats few h there)
      ∙ leaving-same (count-is seats few h.last (free h seats few number there holder)) (head-is h seats few number there holder) (seats-are seats few h.last (free h seats few number there holder))

  well-placed : length seats ≤ nobody → misplaced h (length seats) ≡ false → (h.round ≤ 2) × (h.last < length seats) × (h.free ≤ nobody)
  unfolding misplaced
  well-placed few e =
      let a = or_left (ltb 2 h.round) ((not (eqb h.free nobody) && leb (length seats) h.free) || leb (length seats) h.last) e in
      let b = or_right (ltb 2 h.round) ((not (eqb h.free nobody) && leb (length seats) h.free) || leb (length seats) h.last) e in
      let c = or_left (not (eqb h.free nobody) && leb (length seats) h.free) (leb (length seats) h.last) b in
      let d = or_right (not (eqb h.free nobody) && leb (length seats) h.free) (leb (length seats) h.last) b in (
        ltb-false 2 h.round a,
        leb-false (length seats) h.last d,
        by_bool (eqb h.free nobody)
            (λ q. omega (arith, eqb-true h.free nobody q))
            (λ q. let f : leb (length seats) h.free ≡ false = rw q at c in omega (arith, leb-false (length seats) h.free f)),
      )

  -- of any tables: a refusal, which leaves all as it was, or the head, the marks and the count of the passes are the round as defined
  pub round-turns : let r : Ranking = ranked h.last seats in let f : ℕ = free_of h r in let t : Turned = turned h r f (get_or seats f cleared) in
      cond (sizes_fit h (length seats) (length rows) (length holders))
      (cond (misplaced h (length seats)) (refusing damaged) (leaving t.unchoked t.head (each (λ i s. mark_step t.marks s i) seats)))
      (refusing sizes)
      ≡ round_of (yard_of h seats rows holders)
  unfolding round_of
  round-turns = by_bool (sizes_fit h (length seats) (length rows) (length holders))
      (λ q. let few : length seats ≤ nobody = omega (arith, (fitting h (length seats) (length rows) (length holders) q).seats) in
      by_bool (misplaced h (length seats))
      (λ m. rw (q, m))
      (λ m. let w = well-placed few m in rw (q, m) (taken-turn few w.0 w.1 w.2)))
      (λ q. rw q)
