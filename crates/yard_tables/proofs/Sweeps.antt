-- A sweep: a loop that stores at one place after the other; and what the definitions say of a whole table or row is such a sweep. Assumes nothing.
use mathlib.Core.Path.{◌≡◌, refl, sym, ap, ◌∙◌}
use mathlib.Core.Logic.{◌≢◌}
use mathlib.Core.List.{List, [], ◌∷◌}
use Prim.Native.Nat.{ℕ, zero, suc, ◌+◌, ◌-◌, ◌*◌, ◌≤◌, ◌<◌}
use native.Mathlib.Nat.{not-suc-le-zero}
use native.Mathlib.Numerals.{add-one}
use native.Mathlib.Omega.{arith}
use lib.Bits.{bit_or, or_zero_r}
use lib.ListN.{length, get_or, set, drop, replicate, length-set, length-drop, length-replicate, get_or-replicate}
use lib.Seq.{sets, length-sets, length-take-le, get_or-take, get_or-drop, get_or-set_same, get_or-set_other, set-get_or, ext_get_or}
use Rattle.refusal.proofs.Cases.{same_or, less-or}
use Rattle.yard_tables.specs.Counting.{each_from, each}
use Rattle.yard_tables.specs.Rows.{row_of, or_bytes, with_bits, without_bits}

-- at the places of 0, 1, .. below n what stands there is changed by g
unfoldable pub sweep : {A : Type 0} → A → (ℕ → ℕ) → (ℕ → A → A) → ℕ → List A → List A
sweep d place g zero l = l
sweep d place g (suc n) l = let t = sweep d place g n l in set t (place n) (g n (get_or t (place n) d))

module _ {A : Type 0} (d : A) (place : ℕ → ℕ) (g : ℕ → A → A) where
  -- where a loop starts, and one turn of it: the turn's store in the code's words, and in the definition's
  pub sweep-start : (l : List A) → l ≡ sweep d place g 0 l
  unfolding sweep
  sweep-start l = refl

  pub sweep-next : (n : ℕ) (l : List A) → sweep d place g (n + 1) l ≡ set (sweep d place g n l) (place n) (g n (get_or (sweep d place g n l) (place n) d))
  unfolding sweep
  sweep-next n l = rw add-one

  pub sweep-turn : (n : ℕ) (l t : List A) (v : A) → t ≡ sweep d place g n l → v ≡ g n (get_or t (place n) d) → set t (place n) v ≡ sweep d place g (n + 1) l
  sweep-turn n l t v e f = rw (f, e) (sym (sweep-next n l))

  pub length-sweep : (n : ℕ) (l : List A) → length (sweep d place g n l) ≡ length l
  unfolding sweep
  length-sweep zero l = refl
  length-sweep (suc n) l = length-set (sweep d place g n l) _ _ ∙ length-sweep n l

  -- turns that change nothing
  pub sweep-skip : (n e : ℕ) (l : List A) → n ≤ e → ((q : ℕ) → n ≤ q → q < e → (x : A) → g q x ≡ x) → sweep d place g e l ≡ sweep d place g n l
  unfolding sweep
  sweep-skip n zero l le h = let r : 0 ≡ n = omega arith in ap (λ (x : ℕ). sweep d place g x l) r
  sweep-skip n (suc e) l le h = same_or n (suc e)
      (λ r. ap (λ (x : ℕ). sweep d place g x l) (sym r))
      (λ r. ap (set (sweep d place g e l) (place e)) (h e (omega arith) (omega arith) _)
      ∙ set-get_or (sweep d place g e l) (place e) d
      ∙ sweep-skip n e l (omega arith) (λ q m s. h q m (omega arith)))

  -- what stands at a place that no turn stored at, and at one that a turn did
  pub sweep-out : (n m : ℕ) (l : List A) → ((k : ℕ) → k < n → m ≢ place k) → get_or (sweep d place g n l) m d ≡ get_or l m d
  unfolding sweep
  sweep-out zero m l h = refl
  sweep-out (suc n) m l h = get_or-set_other (sweep d place g n l) (place n) m _ d (h n (omega arith)) ∙ sweep-out n m l (λ k q. h k (omega arith))

  pub sweep-in : (n k : ℕ) (l : List A) → ((a b : ℕ) → a < n → b < n → place a ≡ place b → a ≡ b) → ((a : ℕ) → a < n → place a < length l)
      → k < n → get_or (sweep d place g n l) (place k) d ≡ g k (get_or l (place k) d)
  unfolding sweep
  sweep-in zero k l i f h = absurd (not-suc-le-zero h)
  sweep-in (suc n) k l i f h = same_or k n
      (λ e. rw e (get_or-set_same (sweep d place g n l) (place n) _ d (rw length-sweep (f n (omega arith)))
      ∙ ap (g n) (sweep-out n (place n) l (λ a q e'. omega (arith, i n a (omega arith) (omega arith) e')))))
      (λ e. get_or-set_other (sweep d place g n l) (place n) (place k) _ d (λ q. e (i k n h (omega arith) q))
      ∙ sweep-in n k l (λ a b p q. i a b (omega arith) (omega arith)) (λ a q. f a (omega arith)) (omega arith))

-- two changes that agree where they are made
module _ {A : Type 0} (d : A) (place : ℕ → ℕ) (f g : ℕ → A → A) where
  pub sweep-ext : (n : ℕ) (l : List A) → ((k : ℕ) → k < n → f k (get_or (sweep d place g k l) (place k) d) ≡ g k (get_or (sweep d place g k l) (place k) d))
      → sweep d place f n l ≡ sweep d place g n l
  unfolding sweep
  sweep-ext zero l h = refl
  sweep-ext (suc n) l h =
      ap (λ (t : List A). set t (place n) (f n (get_or t (place n) d))) (sweep-ext n l (λ k q. h k (omega arith)))
      ∙ ap (set (sweep d place g n l) (place n)) (h n (omega arith))

-- ---- each element of a list

module _ {A : Type 0} (f : ℕ → A → A) where
  length-each_from : (k : ℕ) (l : List A) → length (each_from k f l) ≡ length l
  unfolding each_from
  length-each_from k [] = refl
  length-each_from k (x ∷ l) = ap suc (length-each_from (suc k) l)

  get_or-each_from : (k n : ℕ) (l : List A) (d : A) → n < length l → get_or (each_from k f l) n d ≡ f (k + n) (get_or l n d)
  unfolding each_from
  get_or-each_from k n [] d h = absurd (not-suc-le-zero h)
  get_or-each_from k zero (x ∷ l) d h = let e : k ≡ k + 0 = omega arith in ap (λ (m : ℕ). f m x) e
  get_or-each_from k (suc n) (x ∷ l) d h =
      let e : suc k + n ≡ k + suc n = omega arith in get_or-each_from (suc k) n l d (omega arith) ∙ ap (λ (m : ℕ). f m (get_or l n d)) e

  pub length-each : (l : List A) → length (each f l) ≡ length l
  length-each l = length-each_from 0 l

  pub get_or-each : (l : List A) (k : ℕ) (d : A) → k < length l → get_or (each f l) k d ≡ f k (get_or l k d)
  get_or-each l k d h = let e : 0 + k ≡ k = omega arith in get_or-each_from 0 k l d h ∙ ap (λ (m : ℕ). f m (get_or l k d)) e

  -- a sweep over all places
  pub sweep-each : (d : A) (l : List A) → sweep d (λ k. k) f (length l) l ≡ each f l
  sweep-each d l =
      ext_get_or d _ _ (length-sweep d (λ k. k) f (length l) l ∙ sym (length-each l))
      (λ k q. let m : k < length l = omega (arith, length-sweep d (λ a. a) f (length l) l) in
      sweep-in d (λ a. a) f (length l) k l (λ a b p r e. e) (λ a r. r) m ∙ sym (get_or-each l k d m))

-- the same for a table cleared
pub sweep-clear : (l : List ℕ) → sweep 0 (λ k. k) (λ k x. 0) (length l) l ≡ replicate (length l) 0
sweep-clear l =
    ext_get_or 0 _ _ (length-sweep 0 (λ k. k) (λ k x. 0) (length l) l ∙ sym (length-replicate (length l) 0))
    (λ k q. let m : k < length l = omega (arith, length-sweep 0 (λ a. a) (λ a x. 0) (length l) l) in
    sweep-in 0 (λ a. a) (λ a x. 0) (length l) k l (λ a b p r e. e) (λ a r. r) m ∙ sym (get_or-replicate (length l) k 0 0 m))

-- ---- a run of elements

module _ {A : Type 0} (d : A) where
  pub get_or-sets-out : (l : List A) (i : ℕ) (vs : List A) (m : ℕ) → ((k : ℕ) → k < length vs → m ≢ i + k) → get_or (sets l i vs) m d ≡ get_or l m d
  get_or-sets-out l i [] m h = refl
  get_or-sets-out l i (a ∷ vs) m h =
      get_or-sets-out (set l i a) (suc i) vs m (λ k q e. h (suc k) (omega arith) (omega arith)) ∙ get_or-set_other l i m a d (λ e. h 0 (omega arith) (omega arith))

  pub get_or-sets-in : (l : List A) (i : ℕ) (vs : List A) (k : ℕ) → i + length vs ≤ length l → k < length vs → get_or (sets l i vs) (i + k) d ≡ get_or vs k d
  get_or-sets-in l i [] k h q = absurd (not-suc-le-zero q)
  get_or-sets-in l i (a ∷ vs) zero h q =
      let e : i + 0 ≡ i = omega arith in
      ap (λ (m : ℕ). get_or (sets (set l i a) (suc i) vs) m d) e
      ∙ get_or-sets-out (set l i a) (suc i) vs i (λ k r s. omega arith)
      ∙ get_or-set_same l i a d (omega arith)
  get_or-sets-in l i (a ∷ vs) (suc k) h q =
      let e : i + suc k ≡ suc i + k = omega arith in
      ap (λ (m : ℕ). get_or (sets (set l i a) (suc i) vs) m d) e
      ∙ get_or-sets-in (set l i a) (suc i) vs k (omega (arith, length-set l i a)) (omega arith)

  -- a sweep over the run of n elements from a place on
  pub sweep-run : (g : ℕ → A → A) (i n : ℕ) (l vs : List A) → i + n ≤ length l → length vs ≡ n → ((k : ℕ) → k < n → get_or vs k d ≡ g k (get_or l (i + k) d))
      → sweep d (λ k. i + k) g n l ≡ sets l i vs
  sweep-run g i n l vs h e f =
      ext_get_or d _ _ (length-sweep d (λ k. i + k) g n l ∙ sym (length-sets l i vs))
      (λ m q. less-or m i
      (λ r. sweep-out d (λ k. i + k) g n m l (λ k s t. omega arith) ∙ sym (get_or-sets-out l i vs m (λ k s t. omega arith)))
      (λ r. less-or (m - i) n
      (λ s. let t : m ≡ i + (m - i) = omega arith in
      ap (λ (x : ℕ). get_or (sweep d (λ k. i + k) g n l) x d) t
      ∙ sweep-in d (λ k. i + k) g n (m - i) l (λ a b u v w. omega arith) (λ a u. omega arith) s
      ∙ sym (f (m - i) s)
      ∙ sym (get_or-sets-in l i vs (m - i) (omega arith) (omega arith))
      ∙ ap (λ (x : ℕ). get_or (sets l i vs) x d) (sym t))
      (λ s. sweep-out d (λ k. i + k) g n m l (λ k u v. omega arith) ∙ sym (get_or-sets-out l i vs m (λ k u v. omega arith)))))

-- ---- a row

pub length-or_bytes : (xs ys : List ℕ) → length (or_bytes xs ys) ≡ length xs
unfolding or_bytes
length-or_bytes [] ys = refl
length-or_bytes (x ∷ xs) [] = refl
length-or_bytes (x ∷ xs) (y ∷ ys) = ap suc (length-or_bytes xs ys)

pub get_or-or_bytes : (xs ys : List ℕ) (k : ℕ) → k < length xs → get_or (or_bytes xs ys) k 0 ≡ bit_or (get_or xs k 0) (get_or ys k 0)
unfolding or_bytes
get_or-or_bytes [] ys k h = absurd (not-suc-le-zero h)
get_or-or_bytes (x ∷ xs) [] k h = sym (or_zero_r (get_or (x ∷ xs) k 0))
get_or-or_bytes (x ∷ xs) (y ∷ ys) zero h = refl
get_or-or_bytes (x ∷ xs) (y ∷ ys) (suc k) h = get_or-or_bytes xs ys k (omega arith)

module _ (w i : ℕ) (rows : List ℕ) (fits : i * w + w ≤ length rows) where
  length-row_of : length (row_of w rows i) ≡ w
  length-row_of = length-take-le w (drop (i * w) rows) (omega (arith, length-drop (i * w) rows))

  pub get_or-row_of : (k : ℕ) → k < w → get_or (row_of w rows i) k 0 ≡ get_or rows (i * w + k) 0
  get_or-row_of k h = get_or-take w (drop (i * w) rows) k 0 h ∙ get_or-drop (i * w) rows k 0

  -- a sweep over row i: with the bits bs too, and with none
  pub sweep-or : (bs : List ℕ) → sweep 0 (λ k. i * w + k) (λ k x. bit_or x (get_or bs k 0)) w rows ≡ with_bits w i bs rows
  sweep-or bs = sweep-run 0 (λ k x. bit_or x (get_or bs k 0)) (i * w) w rows (or_bytes (row_of w rows i) bs) fits (length-or_bytes (row_of w rows i) bs ∙ length-row_of)
      (λ k h. get_or-or_bytes (row_of w rows i) bs k (omega (arith, length-row_of)) ∙ ap (λ (x : ℕ). bit_or x (get_or bs k 0)) (get_or-row_of k h))

  pub sweep-none : sweep 0 (λ k. i * w + k) (λ k x. 0) w rows ≡ without_bits w i rows
  sweep-none = sweep-run 0 (λ k x. 0) (i * w) w rows (replicate w 0) fits (length-replicate w 0) (λ k h. get_or-replicate w k 0 0 h)

-- changes that agree at each element
pub each-ext : {A : Type 0} (d : A) (f g : ℕ → A → A) (l : List A) → ((k : ℕ) → k < length l → f k (get_or l k d) ≡ g k (get_or l k d)) → each f l ≡ each g l
each-ext d f g l h = ext_get_or d (each f l) (each g l) (length-each f l ∙ sym (length-each g l))
    (λ k q. let m : k < length l = omega (arith, length-each f l) in
    get_or-each f l k d m ∙ h k m ∙ sym (get_or-each g l k d m))
