-- The lowest free seat and the scarcest piece: what is found by the definitions on lists and by those on the history is the same. Assumes nothing.
use mathlib.Core.Path.{◌≡◌, sym, ◌∙◌}
use mathlib.Core.Bool.{Bool, true}
use mathlib.Core.List.{List, [], ◌∷◌}
use Prim.Native.Nat.{ℕ, zero, suc, ◌≤◌, ◌<◌}
use native.Mathlib.Nat.{not-suc-le-zero}
use native.Mathlib.Omega.{arith}
use borrow.Author.Tests.{ltb-true, ltb-false}
use lib.Dec.{ltb}
use lib.ListN.{length, get_or}
use Rattle.refusal.proofs.Cases.{by-test, same_or, less-or, cannot}
use Rattle.yard_tables.specs.Counting.{Least}
use Rattle.yard_tables.specs.Seats.{on, cleared}
use Rattle.yard_tables.specs.Seating.{lowest_free}
use Rattle.yard_tables.specs.Looks.{fewest, place_of}
use Rattle.yard_tables.proofs.Scarce.{least_start, least-turn, least-unique, place-least}
use Rattle.yard_tables.specs.declared.Seat.{Seat}
use Rattle.yard_laws.specs.Says.{Lowest}
use Rattle.yard_laws.specs.Expected.{lowest_without, least_of}

-- ---- the lowest without f

pub lowest-is : (f : ℕ → Bool) (n : ℕ) → Lowest f n (lowest_without f n)
unfolding lowest_without
lowest-is f zero = record { within = omega arith; below = λ j l. absurd (not-suc-le-zero l); lacks = λ l. absurd (not-suc-le-zero l) }
lowest-is f (suc n) =
    let r : Lowest f n (lowest_without f n) = lowest-is f n in
    by-test (Lowest f (suc n)) (ltb (lowest_without f n) n)
    (λ e. let l = ltb-true (lowest_without f n) n e in record { within = omega arith; below = r.below; lacks = λ m. r.lacks l })
    (λ e. let l : n ≤ lowest_without f n = ltb-false (lowest_without f n) n e in
    by-test (Lowest f (suc n)) (f n)
    (λ t. record {
      within = omega arith;
      below = λ j m. same_or j n (λ q. rw q t) (λ d. r.below j (omega arith));
      lacks = λ m. absurd (omega arith);
    })
    (λ t. record { within = omega arith; below = λ j m. r.below j (omega arith); lacks = λ m. t }))

pub lowest-unique : (f : ℕ → Bool) (n a b : ℕ) → Lowest f n a → Lowest f n b → a ≡ b
lowest-unique f n a b p q = less-or a b
    (λ l. cannot _ (p.lacks (omega (arith, q.within))) (q.below a l))
    (λ l. less-or b a
    (λ m. cannot _ (q.lacks (omega (arith, p.within))) (p.below b m))
    (λ m. omega arith))

lowest-ext : (f g : ℕ → Bool) (n k : ℕ) → ((i : ℕ) → f i ≡ g i) → Lowest f n k → Lowest g n k
lowest-ext f g n k e p = record { within = p.within; below = λ j l. sym (e j) ∙ p.below j l; lacks = λ l. sym (e k) ∙ p.lacks l }

abbrev taken_at : List Seat → ℕ → Bool
taken_at l i = on (get_or l i cleared).taken

pub free-lowest : (l : List Seat) → Lowest (taken_at l) (length l) (lowest_free l)
unfolding lowest_free
free-lowest [] = record { within = omega arith; below = λ j l. absurd (not-suc-le-zero l); lacks = λ l. absurd (not-suc-le-zero l) }
free-lowest (s ∷ ss) = by-test (Lowest (taken_at (s ∷ ss)) (suc (length ss))) (on s.taken)
    (λ t. record { within = omega (arith, (free-lowest ss).within); below = up t (free-lowest ss); lacks = λ l. (free-lowest ss).lacks (omega arith) })
    (λ t. record { within = omega arith; below = λ j l. absurd (not-suc-le-zero l); lacks = λ l. t })
  where
    up : on s.taken ≡ true → Lowest (taken_at ss) (length ss) (lowest_free ss) → (j : ℕ) → j < suc (lowest_free ss) → taken_at (s ∷ ss) j ≡ true
    up t r zero l = t
    up t r (suc j) l = r.below j (omega arith)

pub free-is : (l : List Seat) (f : ℕ → Bool) → ((i : ℕ) → taken_at l i ≡ f i) → lowest_free l ≡ lowest_without f (length l)
free-is l f e = lowest-unique f (length l) _ _ (lowest-ext (taken_at l) f (length l) _ e (free-lowest l)) (lowest-is f (length l))

-- ---- the smallest where f is least

least-is : (f : ℕ → ℕ) (n : ℕ) → Least f (suc n) (least_of f (suc n))
unfolding least_of
least-is f zero = by-test (Least f 1) (ltb (f 0) (f 0)) (λ e. least_start f) (λ e. least_start f)
least-is f (suc n) = least-turn f (suc n) (least_of f (suc n)) (least-is f n)

pub least-some : (f : ℕ → ℕ) (n : ℕ) → 0 < n → Least f n (least_of f n)
least-some f zero l = absurd (omega arith)
least-some f (suc n) l = least-is f n

least-ext : (f g : ℕ → ℕ) (n k : ℕ) → ((q : ℕ) → q < n → f q ≡ g q) → Least f n k → Least g n k
least-ext f g n k e p = record {
  within = p.within;
  least = λ q l. omega (arith, e q l, e k p.within, p.least q l);
  first = λ q l. omega (arith, e q (omega (arith, p.within)), e k p.within, p.first q l);
}

pub scarcest-is : (l : List ℕ) (f : ℕ → ℕ) → 0 < length l → ((q : ℕ) → q < length l → get_or l q 0 ≡ f q) → place_of (fewest l) l ≡ least_of f (length l)
scarcest-is [] f h e = absurd (not-suc-le-zero h)
scarcest-is (k ∷ ks) f h e = least-unique f (suc (length ks)) _ _
    (least-ext (λ q. get_or (k ∷ ks) q 0) f (suc (length ks)) _ e (place-least (k ∷ ks) h)) (least-is f (length ks))
