-- The missing list of the tables is the one of the history. Assumes nothing.
use mathlib.Core.Path.{◌≡◌, refl, ap, ap₂, ◌∙◌}
use mathlib.Core.Bool.{Bool, true, false, cond}
use mathlib.Core.List.{List, [], ◌∷◌}
use Prim.Native.Nat.{ℕ, zero, suc, ◌+◌, ◌-◌, ◌<◌}
use native.Mathlib.Omega.{arith}
use lib.ListN.{length, get_or, take, drop, length-drop}
use lib.Seq.{get_or-drop}
use Rattle.yard_tables.specs.Counting.{bit, count}
use Rattle.yard_tables.specs.Seats.{cleared}
use Rattle.yard_tables.specs.Looks.{is_missing, missing_from, missing_at_of, lines_of, first_or, page_of}
use Rattle.yard_tables.specs.declared.Seat.{Seat}
use Rattle.yard_tables.proofs.Counts.{count-ext}
use Rattle.yard_laws.specs.Expected.{those}

-- ---- how many of some numbers have f

count-front : (m : ℕ) (f : ℕ → Bool) → count (suc m) f ≡ bit (f 0) + count m (λ j. f (suc j))
count-front zero f = omega arith
count-front (suc m) f = omega (arith, count-front m f)

length-cond : (b : Bool) (k : ℕ) (l : List ℕ) → length (cond b (k ∷ l) l) ≡ bit b + length l
length-cond true k l = omega arith
length-cond false k l = omega arith

those-count : (f : ℕ → Bool) (k m : ℕ) → length (those f k m) ≡ count m (λ j. f (k + j))
unfolding those
those-count f k zero = refl
those-count f k (suc m) =
    let a : length (those f (suc k) m) ≡ count m (λ j. f (suc k + j)) = those-count f (suc k) m in
    let b : count m (λ j. f (suc k + j)) ≡ count m (λ j. f (k + suc j)) =
    count-ext (λ j. f (suc k + j)) (λ j. f (k + suc j)) m (λ j l. let e : suc k + j ≡ k + suc j = omega arith in ap f e) in
    let z : k + 0 ≡ k = omega arith in
    let c : bit (f (k + 0)) ≡ bit (f k) = ap (λ (x : ℕ). bit (f x)) z in
    omega (arith, a, b, c, length-cond (f k) k (those f (suc k) m), count-front m (λ j. f (k + j)))

pub those-all : (f : ℕ → Bool) (n : ℕ) → length (those f 0 n) ≡ count n f
those-all f n = those-count f 0 n ∙ count-ext (λ j. f (0 + j)) f n (λ j l. let e : 0 + j ≡ j = omega arith in ap f e)

-- ---- the seats of a list

module _ (pieces : ℕ) (f : ℕ → Bool) where
  missing-those : (k : ℕ) (l : List Seat) → ((j : ℕ) → j < length l → is_missing pieces (get_or l j cleared) ≡ f (k + j)) → missing_from pieces k l ≡ those f k (length l)
  unfolding missing_from those
  missing-those k [] h = refl
  missing-those k (s ∷ ss) h =
      let z : k + 0 ≡ k = omega arith in
      ap₂ (λ (b : Bool) (r : List ℕ). cond b (k ∷ r) r) (h 0 (omega arith) ∙ ap f z)
      (missing-those (suc k) ss (λ j l. let e : k + suc j ≡ suc k + j = omega arith in h (suc j) (omega arith) ∙ ap f e))

  module _ (n : ℕ) (seats : List Seat) (size : length seats ≡ n) (is : (j : ℕ) → is_missing pieces (get_or seats j cleared) ≡ f j) where
    missing_at : (first : ℕ) → missing_at_of pieces first seats ≡ those f first (n - first)
    missing_at first =
        missing-those first (drop first seats) (λ j l. ap (is_missing pieces) (get_or-drop first seats j cleared) ∙ is (first + j))
        ∙ ap (those f first) (length-drop first seats ∙ ap (λ (m : ℕ). m - first) size)

    missing-total : length (missing_from pieces 0 seats) ≡ count n f
    missing-total =
        ap length (missing-those 0 seats (λ j l. let e : j ≡ 0 + j = omega arith in is j ∙ ap f e) ∙ ap (those f 0) size)
        ∙ those-all f n

    pub lines_are : (first space : ℕ) → lines_of pieces first space seats ≡ take space (those f first (n - first))
    lines_are first space = ap (take space) (missing_at first)

    pub page-is : (first space : ℕ) → page_of pieces first space seats
        ≡ record { written = length (take space (those f first (n - first))); total = count n f; next = first_or n (drop space (those f first (n - first))) }
    unfolding page_of
    page-is first space =
        ap₂ (λ (l : List ℕ) (m : ℕ). record { written = length (take space l); total = m; next = first_or (length seats) (drop space l) }) (missing_at first) missing-total
        ∙ ap (λ (m : ℕ). record { written = length (take space (those f first (n - first))); total = count n f; next = first_or m (drop space (those f first (n - first))) }) size
