-- How far kinds of bytes and words go at a place of a text. Assumes nothing.
use mathlib.Core.Path.{◌≡◌, refl, sym, ap, ◌∙◌}
use mathlib.Core.Bool.{Bool, true, false}
use mathlib.Core.List.{List, [], ◌∷◌, ◌++◌}
use Prim.Native.Nat.{ℕ, ◌+◌, ◌-◌, ◌<◌, ◌≤◌, min}
use native.Mathlib.Omega.{arith}
use native.Mathlib.Nat.{zero-add, add-zero}
use native.Mathlib.Numerals.{add-one}
use borrow.Author.Tests.{eqb-true, eq-eqb}
use lib.Dec.{eqb}
use lib.ListN.{length, get_or, drop, drop_of_length-le}
use Rattle.torrent_lines.proofs.Running.{one_more as from_place}
use Rattle.refusal.proofs.Cases.{by_bool, less-or}
use Rattle.links.specs.Places.{runs, common}

-- ---- of a kind

module _ (f : ℕ → Bool) (s : List ℕ) (i : ℕ) where
  pub runs-more : i < length s → f (get_or s i 0) ≡ true → runs f (drop i s) ≡ runs f (drop (i + 1) s) + 1
  unfolding runs
  runs-more h e = ap (runs f) (from_place s i h) ∙ rw e (sym (add-one _))

  pub runs-stop : i < length s → f (get_or s i 0) ≡ false → runs f (drop i s) ≡ 0
  unfolding runs
  runs-stop h e = ap (runs f) (from_place s i h) ∙ rw e

  pub runs_none : length s ≤ i → runs f (drop i s) ≡ 0
  unfolding runs
  runs_none h = ap (runs f) (drop_of_length-le s h)

pub runs-within : (f : ℕ → Bool) (s : List ℕ) → runs f s ≤ length s
unfolding runs
runs-within f [] = omega arith
runs-within f (b ∷ s) = by_bool (f b) (λ e. rw e (omega (arith, runs-within f s))) (λ e. rw e (omega arith))

-- counted from p on, k so far
module _ (f : ℕ → Bool) (s : List ℕ) (p : ℕ) where
  pub runs-from : runs f (drop p s) ≡ 0 + runs f (drop (p + 0) s)
  runs-from = rw (add-zero p, zero-add (runs f (drop p s)))

  module _ (k : ℕ) (e : runs f (drop p s) ≡ k + runs f (drop (p + k) s)) where
    pub runs_on : p + k < length s → f (get_or s (p + k) 0) ≡ true → runs f (drop p s) ≡ k + 1 + runs f (drop (p + (k + 1)) s)
    runs_on h g =
        let z : p + k + 1 ≡ p + (k + 1) = omega arith in
        omega (arith, e, runs-more f s (p + k) h g ∙ ap (λ (i : ℕ). runs f (drop i s) + 1) z)

    -- as many as there are, or the most that are wanted
    pub runs-most : (most : ℕ) → p ≤ length s → k ≡ min most (length s - p) → k ≡ min most (runs f (drop p s))
    runs-most most l g = less-or k most (λ h. omega (arith, e, runs_none f s (p + k) (omega arith))) (λ h. omega (arith, e))

-- of the first two, how many are so
module _ (f : ℕ → Bool) (s : List ℕ) (p : ℕ) where
  pub none_of_two : (p < length s → f (get_or s p 0) ≡ false) → 0 ≡ min 2 (runs f (drop p s))
  none_of_two e = less-or p (length s) (λ h. omega (arith, runs-stop f s p h (e h))) (λ h. omega (arith, runs_none f s p h))

  module _ (h : p < length s) (e : f (get_or s p 0) ≡ true) where
    pub one_of_two : (p + 1 < length s → f (get_or s (p + 1) 0) ≡ false) → 1 ≡ min 2 (runs f (drop p s))
    one_of_two g =
        less-or (p + 1) (length s)
        (λ i. omega (arith, runs-more f s p h e, runs-stop f s (p + 1) i (g i)))
        (λ i. omega (arith, runs-more f s p h e, runs_none f s (p + 1) i))

    pub two-of-two : p + 1 < length s → f (get_or s (p + 1) 0) ≡ true → 2 ≡ min 2 (runs f (drop p s))
    two-of-two i g = omega (arith, runs-more f s p h e, runs-more f s (p + 1) i g)

-- ---- of a word

common-none : (w : List ℕ) → common [] w ≡ 0
unfolding common
common-none [] = refl
common-none (c ∷ w) = refl

module _ (s w : List ℕ) (i j : ℕ) where
  both_at : i < length s → j < length w → common (drop i s) (drop j w) ≡ common (get_or s i 0 ∷ drop (i + 1) s) (get_or w j 0 ∷ drop (j + 1) w)
  both_at h l = ap (λ (x : List ℕ). common x (drop j w)) (from_place s i h) ∙ ap (common (get_or s i 0 ∷ drop (i + 1) s)) (from_place w j l)

  pub common-more : i < length s → j < length w → eqb (get_or s i 0) (get_or w j 0) ≡ true → common (drop i s) (drop j w) ≡ common (drop (i + 1) s) (drop (j + 1) w) + 1
  unfolding common
  common-more h l e = both_at h l ∙ rw e (sym (add-one _))

  pub common-stop : i < length s → j < length w → eqb (get_or s i 0) (get_or w j 0) ≡ false → common (drop i s) (drop j w) ≡ 0
  unfolding common
  common-stop h l e = both_at h l ∙ rw e

  pub common-whole : length w ≤ j → common (drop i s) (drop j w) ≡ 0
  unfolding common
  common-whole l = ap (common (drop i s)) (drop_of_length-le w l)

  pub common-end : length s ≤ i → common (drop i s) (drop j w) ≡ 0
  common-end h = ap (λ (x : List ℕ). common x (drop j w)) (drop_of_length-le s h) ∙ common-none (drop j w)

-- counted from p on, k so far
module _ (s w : List ℕ) (p : ℕ) where
  pub common-from : common (drop p s) w ≡ 0 + common (drop (p + 0) s) (drop 0 w)
  common-from = rw (add-zero p, zero-add (common (drop p s) w))

  module _ (k : ℕ) (e : common (drop p s) w ≡ k + common (drop (p + k) s) (drop k w)) where
    pub common-on : p + k < length s → k < length w → get_or s (p + k) 0 ≡ get_or w k 0 → common (drop p s) w ≡ k + 1 + common (drop (p + (k + 1)) s) (drop (k + 1) w)
    common-on h l g =
        let z : p + k + 1 ≡ p + (k + 1) = omega arith in
        omega (arith, e, common-more s w (p + k) k h l (eq-eqb _ _ g) ∙ ap (λ (i : ℕ). common (drop i s) (drop (k + 1) w) + 1) z)

    pub common-most : p ≤ length s → k ≡ min (length w) (length s - p) → k ≡ common (drop p s) w
    common-most l g = less-or k (length w) (λ h. omega (arith, e, common-end s w (p + k) k (omega arith))) (λ h. omega (arith, e, common-whole s w (p + k) k h))

pub common-within : (s w : List ℕ) → common s w ≤ length w
unfolding common
common-within s [] = omega arith
common-within [] (c ∷ w) = omega arith
common-within (b ∷ s) (c ∷ w) = by_bool (eqb b c) (λ e. rw e (omega (arith, common-within s w))) (λ e. rw e (omega arith))

-- the whole word stands at the front
pub common-there : (s w : List ℕ) → common s w ≡ length w → s ≡ w ++ drop (length w) s
unfolding common
common-there s [] e = refl
common-there [] (c ∷ w) e = absurd (omega (arith, e))
common-there (b ∷ s) (c ∷ w) h =
    by_bool (eqb b c)
    (λ e. let k : common s w ≡ length w = omega (arith, rw e at h) in ap (λ (x : ℕ). x ∷ s) (eqb-true b c e) ∙ ap {B = List ℕ} (λ (x : List ℕ). c ∷ x) (common-there s w k))
    (λ e. absurd (omega (arith, rw e at h)))
