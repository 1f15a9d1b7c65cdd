-- Passes over a row and over counts, turn by turn. Assumes nothing.
use mathlib.Core.Path.{◌≡◌, refl, sym, ap, ap₂, ◌∙◌}
use mathlib.Core.Bool.{Bool, false, ◌&&◌, ◌||◌}
use mathlib.Core.List.{List}
use Prim.Native.Nat.{ℕ, zero, suc, ◌+◌, ◌/◌, ◌%◌, ◌-◌, ◌≤◌, ◌<◌}
use native.Mathlib.Nat.{not-suc-le-zero}
use native.Mathlib.Omega.{arith}
use native.Mathlib.Numerals.{add-one}
use lib.Dec.{eqb}
use lib.ListN.{length, get_or, set, length-set}
use lib.Seq.{set-get_or, get_or-set_same, get_or-set_other, ext_get_or}
use Rattle.refusal.proofs.Cases.{same_or, or-first}
use Rattle.yard_tables.specs.Counting.{bit, some, each}
use Rattle.yard_tables.specs.Rows.{digit}
use Rattle.yard_tables.proofs.Digits.{digit-zero}
use Rattle.yard_tables.proofs.Sweeps.{length-each, get_or-each}
use Rattle.yard_seating.specs.Steps.{has_at, some_zero, lowered}

-- ---- whether some k has f

pub some_next : (f : ℕ → Bool) (n : ℕ) → some (n + 1) f ≡ (some n f || f n)
some_next f n = rw add-one

pub some-skip : (f : ℕ → Bool) (n e : ℕ) → n ≤ e → ((q : ℕ) → n ≤ q → q < e → f q ≡ false) → some e f ≡ some n f
some-skip f n zero l h = let r : 0 ≡ n = omega arith in ap (λ (k : ℕ). some k f) r
some-skip f n (suc e) l h = same_or n (suc e)
    (λ r. ap (λ (k : ℕ). some k f) (sym r))
    (λ r. or-first (some e f) (f e) (h e (omega arith) (omega arith)) ∙ some-skip f n e (omega arith) (λ q m k. h q m (omega arith)))

module _ (rows : List ℕ) (at : ℕ) where
  -- a byte of no bits
  pub has-none : (p q : ℕ) → q / 8 ≡ p / 8 → get_or rows (at + p / 8) 0 ≡ 0 → has_at rows at q ≡ false
  has-none p q e z = rw (e, z) (digit-zero (7 - q % 8))

  module _ (holders : List ℕ) where
    pub zero_turn : (p q : ℕ) (any r : Bool) → q / 8 ≡ p / 8 → any ≡ some_zero rows at holders q
        → r ≡ (any || (digit (7 - q % 8) (get_or rows (at + p / 8) 0) && eqb (get_or holders q 0) 0)) → r ≡ some_zero rows at holders (q + 1)
    zero_turn p q any r e ea er =
        let f : ℕ → Bool = λ k. has_at rows at k && eqb (get_or holders k 0) 0 in
        er ∙ ap₂ (λ (a : Bool) (k : ℕ). a || (digit (7 - q % 8) (get_or rows (at + k) 0) && eqb (get_or holders q 0) 0)) ea (sym e)
        ∙ sym (some_next f q)

    pub zero-skip : (p end : ℕ) → p ≤ end → end ≤ p + 8 → p % 8 ≡ 0 → get_or rows (at + p / 8) 0 ≡ 0 → some_zero rows at holders end ≡ some_zero rows at holders p
    zero-skip p end l m z b =
        some-skip (λ k. has_at rows at k && eqb (get_or holders k 0) 0) p end l
        (λ q h k. ap (λ (x : Bool). x && eqb (get_or holders q 0) 0) (has-none p q (omega arith) b))

  -- ---- counts one down

  pub lowered-next : (n : ℕ) (l : List ℕ) → lowered rows at (n + 1) l ≡ set (lowered rows at n l) n (get_or (lowered rows at n l) n 0 - bit (has_at rows at n))
  unfolding lowered
  lowered-next n l = rw add-one

  pub lowered-start : (l : List ℕ) → l ≡ lowered rows at 0 l
  unfolding lowered
  lowered-start l = refl

  pub lowered-len : (n : ℕ) (l : List ℕ) → length (lowered rows at n l) ≡ length l
  unfolding lowered
  lowered-len zero l = refl
  lowered-len (suc n) l = length-set (lowered rows at n l) _ _ ∙ lowered-len n l

  less_none : (x : ℕ) (b : Bool) → b ≡ false → x - bit b ≡ x
  less_none x b e = rw e (omega arith)

  pub lowered-skip : (p end : ℕ) (l : List ℕ) → p ≤ end → ((q : ℕ) → p ≤ q → q < end → has_at rows at q ≡ false) → lowered rows at end l ≡ lowered rows at p l
  unfolding lowered
  lowered-skip p zero l le h = let r : 0 ≡ p = omega arith in ap (λ (k : ℕ). lowered rows at k l) r
  lowered-skip p (suc e) l le h = same_or p (suc e)
      (λ r. ap (λ (k : ℕ). lowered rows at k l) (sym r))
      (λ r. ap (set (lowered rows at e l) e) (less_none (get_or (lowered rows at e l) e 0) (has_at rows at e) (h e (omega arith) (omega arith)))
      ∙ set-get_or (lowered rows at e l) e 0
      ∙ lowered-skip p e l (omega arith) (λ q m k. h q m (omega arith)))

  pub lowered-turn : (p q : ℕ) (cs c : List ℕ) (v : ℕ) (b : Bool) → q / 8 ≡ p / 8 → cs ≡ lowered rows at q c
      → b ≡ digit (7 - q % 8) (get_or rows (at + p / 8) 0) → v ≡ get_or cs q 0 - bit b → set cs q v ≡ lowered rows at (q + 1) c
  lowered-turn p q cs c v b e ec eb ev = rw (ev, eb, ec, lowered-next q c, e)

  -- places from n on are as they were, and those below are one down where the row has the piece
  lowered-above : (n k : ℕ) (l : List ℕ) → n ≤ k → get_or (lowered rows at n l) k 0 ≡ get_or l k 0
  unfolding lowered
  lowered-above zero k l h = refl
  lowered-above (suc n) k l h = get_or-set_other (lowered rows at n l) n k _ 0 (omega arith) ∙ lowered-above n k l (omega arith)

  lowered-below : (n k : ℕ) (l : List ℕ) → k < n → k < length l → get_or (lowered rows at n l) k 0 ≡ get_or l k 0 - bit (has_at rows at k)
  unfolding lowered
  lowered-below zero k l h m = absurd (not-suc-le-zero h)
  lowered-below (suc n) k l h m = same_or k n
      (λ e. rw e (get_or-set_same (lowered rows at n l) n _ 0 (omega (arith, lowered-len n l)) ∙ ap (λ (x : ℕ). x - bit (has_at rows at n)) (lowered-above n n l (omega arith))))
      (λ e. get_or-set_other (lowered rows at n l) n k _ 0 e ∙ lowered-below n k l (omega arith) m)

  pub lowered-each : (n : ℕ) (l : List ℕ) → length l ≡ n → lowered rows at n l ≡ each (λ p k. k - bit (has_at rows at p)) l
  lowered-each n l e =
      let g : ℕ → ℕ → ℕ = λ p k. k - bit (has_at rows at p) in
      ext_get_or 0 (lowered rows at n l) (each g l) (lowered-len n l ∙ sym (length-each g l))
      (λ i h. let m : i < length l = omega (arith, lowered-len n l) in
      lowered-below n i l (omega arith) m ∙ sym (get_or-each g l i 0 m))
