-- Counts, tests and tables where at most one number matters. Assumes nothing.
use mathlib.Core.Path.{◌≡◌, refl, sym, ap, ◌∙◌}
use mathlib.Core.Logic.{◌≢◌}
use mathlib.Core.Bool.{Bool, true, false, ◌||◌}
use mathlib.Core.List.{List}
use Prim.Native.Nat.{ℕ, zero, suc, ◌+◌, ◌<◌}
use native.Mathlib.Nat.{not-suc-le-zero}
use native.Mathlib.Omega.{arith}
use lib.ListN.{length, get_or, set, length-set}
use lib.Seq.{ext_get_or, get_or-set_same, get_or-set_other}
use Rattle.refusal.proofs.Cases.{same_or}
use Rattle.yard_tables.specs.Counting.{bit, count, some, each}
use Rattle.yard_tables.proofs.Counts.{count_none, some-none}
use Rattle.yard_tables.proofs.Sweeps.{length-each, get_or-each}

module _ (f : ℕ → Bool) where
  pub each_none : (l : List ℕ) → ((k : ℕ) → k < length l → f k ≡ false) → each (λ k x. x + bit (f k)) l ≡ l
  each_none l h =
      ext_get_or 0 (each (λ k x. x + bit (f k)) l) l (length-each (λ k x. x + bit (f k)) l)
      (λ k q. let m : k < length l = omega (arith, length-each (λ a x. x + bit (f a)) l) in
      let z : get_or l k 0 + 0 ≡ get_or l k 0 = omega arith in
      get_or-each (λ a x. x + bit (f a)) l k 0 m ∙ ap (λ (b : Bool). get_or l k 0 + bit b) (h k m) ∙ z)

  -- none but p
  module _ (p : ℕ) (h : (k : ℕ) → k ≢ p → f k ≡ false) where
    pub count-only : (n : ℕ) → p < n → count n f ≡ bit (f p)
    count-only zero l = absurd (not-suc-le-zero l)
    count-only (suc n) l = same_or p n
        (λ e. rw e (let z : count n f ≡ 0 = count_none f n (λ k q. h k (omega arith)) in omega arith))
        (λ e. let a : bit (f n) ≡ 0 = ap bit (h n (λ r. e (sym r))) in omega (arith, count-only n (omega arith)))

    pub some-only : (n : ℕ) → p < n → some n f ≡ f p
    some-only zero l = absurd (not-suc-le-zero l)
    some-only (suc n) l = same_or p n
        (λ e. rw (e, some-none f n (λ k q. h k (omega arith))))
        (λ e. rw (h n (λ r. e (sym r)), some-only n (omega arith)) (go (f p)))
      where
        go : (b : Bool) → (b || false) ≡ b
        go true = refl
        go false = refl

    pub each-only : (l : List ℕ) → p < length l → each (λ k x. x + bit (f k)) l ≡ set l p (get_or l p 0 + bit (f p))
    each-only l b =
        ext_get_or 0 (each (λ k x. x + bit (f k)) l) (set l p (get_or l p 0 + bit (f p))) (length-each (λ k x. x + bit (f k)) l ∙ sym (length-set l p _))
        (λ k q. let m : k < length l = omega (arith, length-each (λ a x. x + bit (f a)) l) in
        get_or-each (λ a x. x + bit (f a)) l k 0 m ∙ same_or k p
        (λ e. rw e (sym (get_or-set_same l p (get_or l p 0 + bit (f p)) 0 b)))
        (λ e. let z : get_or l k 0 + 0 ≡ get_or l k 0 = omega arith in
        ap (λ (t : Bool). get_or l k 0 + bit t) (h k e) ∙ z ∙ sym (get_or-set_other l p k (get_or l p 0 + bit (f p)) 0 e)))
