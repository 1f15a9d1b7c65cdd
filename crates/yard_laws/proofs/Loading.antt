-- A truck has announced every piece exactly if it holds as many as there are: so loaded and lacking are told by its count. Assumes nothing.
use mathlib.Core.Path.{◌≡◌, refl, sym, ap, ◌∙◌}
use mathlib.Core.Bool.{Bool, true, false, not, ◌&&◌, ◌||◌}
use Prim.Native.Nat.{ℕ, zero, suc, ◌+◌}
use native.Mathlib.Omega.{arith}
use borrow.Author.Tests.{eq-eqb, eqb-true}
use lib.Dec.{eqb}
use Rattle.refusal.proofs.Cases.{both, both_true, same_test}
use Rattle.yard_tables.specs.Counting.{bit, count, some}
use Rattle.yard_tables.proofs.Counts.{bit_le, count-le}
use Rattle.yard_laws.specs.Says.{all_of}

bit-one : (b : Bool) → bit b ≡ 1 → b ≡ true
bit-one true e = refl
bit-one false e = absurd (omega arith)

count-all : (f : ℕ → Bool) (n : ℕ) → all_of n f ≡ eqb (count n f) n
count-all f zero = refl
count-all f (suc n) = same_test (all_of n f && f n) (eqb (count n f + bit (f n)) (suc n))
    (λ e.
    let q = both (all_of n f) (f n) e in
    let c = eqb-true (count n f) n (sym (count-all f n) ∙ q.0) in
    let d : bit (f n) ≡ 1 = ap bit q.1 in
    eq-eqb (count n f + bit (f n)) (suc n) (omega arith))
    (λ e.
    let s = eqb-true (count n f + bit (f n)) (suc n) e in
    let l = count-le f n in
    let m = bit_le (f n) in
    both_true (all_of n f) (f n) (count-all f n ∙ eq-eqb (count n f) n (omega arith)) (bit-one (f n) (omega arith)))

not-and : (a b : Bool) → not (a && b) ≡ not a || not b
not-and true b = refl
not-and false b = refl

some-not : (f : ℕ → Bool) (n : ℕ) → some n (λ k. not (f k)) ≡ not (all_of n f)
some-not f zero = refl
some-not f (suc n) = ap (λ (b : Bool). b || not (f n)) (some-not f n) ∙ sym (not-and (all_of n f) (f n))

-- s: a truck sits there; a: the pieces that it has announced
pub all_held : (s : Bool) (a : ℕ → Bool) (n : ℕ) → (s && all_of n a) ≡ (s && eqb (count n (λ p. s && a p)) n)
all_held true a n = count-all a n
all_held false a n = refl

pub lacks-held : (s : Bool) (a : ℕ → Bool) (n : ℕ) → (s && some n (λ p. not (a p))) ≡ (s && not (eqb (count n (λ p. s && a p)) n))
lacks-held true a n = some-not a n ∙ ap not (count-all a n)
lacks-held false a n = refl
