-- The smallest number where f is least, and the scarcest piece as one. Assumes nothing.
use mathlib.Core.Path.{◌≡◌, refl, ap}
use mathlib.Core.Bool.{cond}
use mathlib.Core.List.{List, [], ◌∷◌}
use Prim.Native.Nat.{ℕ, zero, suc, ◌≤◌, ◌<◌}
use native.Mathlib.Nat.{not-suc-le-zero}
use native.Mathlib.Omega.{arith}
use borrow.Author.Tests.{ltb-true, ltb-false, eqb-true, eqb-false}
use lib.Dec.{ltb, eqb}
use lib.ListN.{length, get_or}
use Rattle.refusal.proofs.Cases.{by-test, same_or, less-or}
use Rattle.yard_tables.specs.Counting.{Least}
use Rattle.yard_tables.specs.Looks.{fewest, place_of}

-- ---- where f is least

module _ (f : ℕ → ℕ) where
  pub least_start : Least f 1 0
  least_start = record {
    within = omega arith;
    least = λ q l. let e : 0 ≡ q = omega arith in let r : f 0 ≡ f q = ap f e in omega arith;
    first = λ q l. absurd (not-suc-le-zero l);
  }

  -- one number more
  pub least-turn : (n k : ℕ) → Least f n k → Least f (suc n) (cond (ltb (f n) (f k)) n k)
  least-turn n k r = by-test (Least f (suc n)) (ltb (f n) (f k))
      (λ e. let l : f n < f k = ltb-true (f n) (f k) e in
      record {
        within = omega arith;
        least = λ q m. same_or q n (λ d. let s : f q ≡ f n = ap f d in omega arith) (λ d. omega (arith, r.least q (omega arith)));
        first = λ q m. omega (arith, r.least q m);
      })
      (λ e. let l : f k ≤ f n = ltb-false (f n) (f k) e in
      record {
        within = omega (arith, r.within);
        least = λ q m. same_or q n (λ d. let s : f q ≡ f n = ap f d in omega arith) (λ d. r.least q (omega arith));
        first = r.first;
      })

  pub least-unique : (n a b : ℕ) → Least f n a → Least f n b → a ≡ b
  least-unique n a b p q = less-or a b
      (λ l. omega (arith, q.first a l, p.least b q.within))
      (λ l. less-or b a (λ m. omega (arith, p.first b m, q.least a p.within)) (λ m. omega arith))

-- ---- the scarcest piece

-- the smallest of some numbers is one of them, and none is smaller
fewest-le : (l : List ℕ) (q : ℕ) → q < length l → fewest l ≤ get_or l q 0
unfolding fewest
fewest-le [] q h = absurd (not-suc-le-zero h)
fewest-le (k ∷ []) zero h = omega arith
fewest-le (k ∷ []) (suc q) h = absurd (omega arith)
fewest-le (k ∷ l ∷ ks) zero h = omega arith
fewest-le (k ∷ l ∷ ks) (suc q) h = omega (arith, fewest-le (l ∷ ks) q (omega arith))

fewest-in : (k : ℕ) (ks : List ℕ) → (q : ℕ) × (q < suc (length ks)) × (get_or (k ∷ ks) q 0 ≡ fewest (k ∷ ks))
unfolding fewest
fewest-in k [] = (0, omega arith, refl)
fewest-in k (l ∷ ks) =
    let r = fewest-in l ks in
    less-or (fewest (l ∷ ks)) k
    (λ m. (suc r.0, omega (arith, r.1), omega (arith, r.2)))
    (λ m. (0, omega arith, omega arith))

-- the place where a number first stands, if it stands somewhere
record Stands (m : ℕ) (l : List ℕ) (k : ℕ) : Type 0 where
  there : k < length l
  is : get_or l k 0 ≡ m
  not-before : (q : ℕ) → q < k → get_or l q 0 ≡ m → ⊥

place_is : (m : ℕ) (l : List ℕ) (q : ℕ) → q < length l → get_or l q 0 ≡ m → Stands m l (place_of m l)
unfolding place_of
place_is m [] q h e = absurd (not-suc-le-zero h)
place_is m (k ∷ ks) q h e = by-test (Stands m (k ∷ ks)) (eqb k m)
    (λ t. record { there = omega arith; is = eqb-true k m t; not-before = λ j l. absurd (not-suc-le-zero l) })
    (λ t. let r : Stands m ks (place_of m ks) = later q h e (eqb-false k m t) (place_is m ks) in
    record { there = omega (arith, r.there); is = r.is; not-before = up (eqb-false k m t) r })
  where
    later : (q : ℕ) → q < suc (length ks) → get_or (k ∷ ks) q 0 ≡ m → (k ≡ m → ⊥) → ((j : ℕ) → j < length ks → get_or ks j 0 ≡ m → Stands m ks (place_of m ks)) → Stands m ks (place_of m ks)
    later zero h e d f = absurd (d e)
    later (suc q) h e d f = f q (omega arith) e

    up : (k ≡ m → ⊥) → Stands m ks (place_of m ks) → (j : ℕ) → j < suc (place_of m ks) → get_or (k ∷ ks) j 0 ≡ m → ⊥
    up d r zero l = d
    up d r (suc j) l = r.not-before j (omega arith)

pub place-least : (l : List ℕ) → 0 < length l → Least (λ q. get_or l q 0) (length l) (place_of (fewest l) l)
place-least [] h = absurd (not-suc-le-zero h)
place-least (k ∷ ks) h =
    let i = fewest-in k ks in
    let r : Stands (fewest (k ∷ ks)) (k ∷ ks) (place_of (fewest (k ∷ ks)) (k ∷ ks)) = place_is (fewest (k ∷ ks)) (k ∷ ks) i.0 i.1 i.2 in
    record {
      within = r.there;
      least = λ q l. omega (arith, r.is, fewest-le (k ∷ ks) q l);
      first = λ q l.
          let d : get_or (k ∷ ks) q 0 ≡ fewest (k ∷ ks) → ⊥ = r.not-before q l in
          omega (arith, r.is, fewest-le (k ∷ ks) q (omega (arith, r.there)));
    }
