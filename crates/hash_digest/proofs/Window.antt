-- A schedule in a window of sixteen words, by any rule that looks back no further. Assumes nothing.
use Rattle.std.proofs.Common.{◌≡◌, ℕ, zero, suc, ◌+◌, ◌-◌, ◌%◌, ◌<◌, ◌≤◌, cond, ltb, List, [], ◌∷◌, ◌++◌, length, set, sym, ap, ◌∙◌, subst, add-zero, add-suc, add-one, arith, length-append, length-set, get_or-set_other, get_or-set_same, le-ltb, lt-ltb}
use lib.ListN.{get_or-append}
use lib.Seq.{get_or_at}
use Rattle.refusal.proofs.Cases.{same_or}
use Rattle.hash_digest.specs.Words.{word}
use Rattle.hash_digest.specs.Window.{Rule, Near, in_order_of, in_window, made, Schedule, Window, renewed, moved}

-- words that stand in two ways, and are the same where the rule looks, make the same word
made-same : (R : Rule) (p q : ℕ → ℕ) (t : ℕ) → p (t - R.first) ≡ q (t - R.first) → p (t - R.second) ≡ q (t - R.second) → p (t - R.third) ≡ q (t - R.third)
    → p (t - 16) ≡ q (t - 16) → made R p t ≡ made R q t
made-same R p q t e₁ e₂ e₃ e₄ = cc

-- ---- a schedule that grows word by word is one

module _ (R : Rule) (near : Near R) (b : List ℕ) (s : ℕ → List ℕ) (none : s 0 ≡ [])
    (next : (t : ℕ) → s (suc t) ≡ s t ++ (cond (ltb t 16) (word b t) (made R (in_order_of (s t)) t) ∷ [])) where
  length-of : (n : ℕ) → length (s n) ≡ n
  length-of zero = ap length none
  length-of (suc n) =
      ap length (next n)
      ∙ length-append (s n) (cond (ltb n 16) (word b n) (made R (in_order_of (s n)) n) ∷ [])
      ∙ ap (λ (i : ℕ). i + 1) (length-of n)
      ∙ add-one n

  -- a word does not depend on how many more are made
  kept : (n j i : ℕ) → i < n → in_order_of (s (n + j)) i ≡ in_order_of (s n) i
  kept n zero i h = ap (λ (m : ℕ). in_order_of (s m) i) (add-zero n)
  kept n (suc j) i h =
      let l : length (s (n + j)) ≡ n + j = length-of (n + j) in
      ap (λ (m : ℕ). in_order_of (s m) i) (add-suc n j)
      ∙ ap (λ (w : List ℕ). in_order_of w i) (next (n + j))
      ∙ get_or-append (s (n + j)) (cond (ltb (n + j) 16) (word b (n + j)) (made R (in_order_of (s (n + j))) (n + j)) ∷ []) 0 i (omega arith)
      ∙ kept n j i h

  of-more : (n m i : ℕ) → i < m → m ≤ n → in_order_of (s n) i ≡ in_order_of (s m) i
  of-more n m i h p =
      let e : n ≡ m + (n - m) = omega arith in
      ap (λ (k : ℕ). in_order_of (s k) i) e ∙ kept m (n - m) i h

  newest : (n t : ℕ) → t < n → in_order_of (s n) t ≡ cond (ltb t 16) (word b t) (made R (in_order_of (s t)) t)
  newest n t h =
      of-more n (suc t) t (omega arith) (omega arith)
      ∙ ap (λ (w : List ℕ). in_order_of w t) (next t)
      ∙ get_or_at (s t) (cond (ltb t 16) (word b t) (made R (in_order_of (s t)) t)) [] 0 t (length-of t)

  pub scheduled : (n : ℕ) → Schedule R b n (s n)
  scheduled n =
      record {
        early = λ t h p. newest n t p ∙ rw (lt-ltb t 16 h);
        late = λ t h p.
            newest n t p
            ∙ (rw (le-ltb t 16 h)
            (made-same R (in_order_of (s t)) (in_order_of (s n)) t (sym (of-more n t (t - R.first) (omega arith) (omega arith))) (sym (of-more n t (t - R.second) (omega arith) (omega arith)))
            (sym (of-more n t (t - R.third) (omega arith) (omega arith))) (sym (of-more n t (t - 16) (omega arith) (omega arith)))));
      }

-- ---- the window moves on

pub window-none : (s w : List ℕ) → length w ≡ 16 → Window s 0 w
window-none s w l = (l, λ i h p. omega arith)

-- a word put in its place
put : (s w : List ℕ) (t v : ℕ) → v ≡ in_order_of s t → Window s t w → Window s (t + 1) (set w (t % 16) v)
put s w t v e d = (
  length-set w (t % 16) v ∙ d.0,
  λ i h p.
      same_or i t
      (λ q. ap (λ (j : ℕ). in_window (set w (t % 16) v) j) q ∙ get_or-set_same w (t % 16) v 0 (omega (arith, d.0)) ∙ e ∙ sym (ap (in_order_of s) q))
      (λ q. get_or-set_other w (t % 16) (i % 16) v 0 (λ r. omega (arith, q, r)) ∙ d.1 i (omega (arith, q)) (omega (arith, q))),
)

module _ {R : Rule} {b : List ℕ} {m : ℕ} {s : List ℕ} (σ : Schedule R b m s) (w : List ℕ) where
  -- one of the block's words
  pub window-early : (t v : ℕ) → t < 16 → t < m → v ≡ word b t → Window s t w → Window s (t + 1) (set w t v)
  window-early t v h within e d =
      let q : t % 16 ≡ t = omega arith in
      subst (λ (i : ℕ). Window s (t + 1) (set w i v)) q (put s w t v (e ∙ sym (σ.early t h within)) d)

module _ {R : Rule} (near : Near R) {b : List ℕ} {m : ℕ} {s : List ℕ} (σ : Schedule R b m s) where
  -- one that the rule makes
  renewing : (w : List ℕ) (t : ℕ) → 16 ≤ t → t < m → Window s t w → Window s (t + 1) (renewed R t w)
  unfolding renewed
  renewing w t h within d =
      put s w t (made R (in_window w) t)
      (made-same R (in_window w) (in_order_of s) t (d.1 (t - R.first) (omega arith) (omega arith)) (d.1 (t - R.second) (omega arith) (omega arith)) (d.1 (t - R.third) (omega arith) (omega arith))
      (d.1 (t - 16) (omega arith) (omega arith))
      ∙ sym (σ.late t h within))
      d

  -- n of them
  pub window-late : (w : List ℕ) (t n : ℕ) → 16 ≤ t → t + n ≤ m → Window s t w → Window s (t + n) (moved R t n w)
  unfolding moved
  window-late w t zero h within d = rw add-zero d
  window-late w t (suc n) h within d =
      let e : t + n + 1 ≡ t + suc n = omega arith in
      subst (λ (i : ℕ). Window s i (moved R t (suc n) w)) e (renewing (moved R t n w) (t + n) (omega arith) (omega arith) (window-late w t n h (omega arith) d))

-- four words, as four steps of code put them
pub four-moved : (R : Rule) (t : ℕ) (w : List ℕ) {v₁ v₂ v₃ v₄ : List ℕ} → v₁ ≡ renewed R t w → v₂ ≡ renewed R (t + 1) v₁ → v₃ ≡ renewed R (t + 2) v₂ → v₄ ≡ renewed R (t + 3) v₃ → v₄ ≡ moved R t 4 w
unfolding moved
four-moved R t w e₁ e₂ e₃ e₄ = rw add-zero (cc)
