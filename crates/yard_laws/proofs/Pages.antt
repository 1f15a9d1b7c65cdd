-- The missing list by the history: who stands on it, and in which order. Assumes nothing.
use mathlib.Core.Path.{◌≡◌, refl, sym, ap, ap₂, ◌∙◌}
use mathlib.Core.Logic.Iff
use mathlib.Core.Logic.{◌⊎◌, inl, inr, ◌↔◌}
use mathlib.Core.Bool.{Bool, true}
use mathlib.Core.List.Memᴰ
use mathlib.Core.List.{List, [], ◌∷◌, Memᴰ}
use Prim.Native.Nat.{ℕ, zero, suc, ◌+◌, ◌-◌, ◌≤◌, ◌<◌}
use native.Mathlib.Omega.{arith}
use Rattle.refusal.proofs.Cases.{by-test, same_or, cannot}
use Rattle.yard_laws.specs.History.{History, Fixed}
use Rattle.yard_laws.specs.Says.{lacking, Ascending, none, one, Missing}
use Rattle.yard_laws.specs.Expected.{those, missing_from}

-- ---- an ascending list is known by its members

-- who stands on one that begins at k or later is not before k
pub not-before : {k : ℕ} {l : List ℕ} → Ascending k l → (j : ℕ) → Memᴰ j l → k ≤ j
not-before (none k) j i = absurd (Memᴰ.not-nil i)
not-before (one k a l h s) j i = go (Memᴰ.cases_cons i) (λ d. let y = not-before s j d in omega arith)
  where
    go : (j ≡ a) ⊎ Memᴰ j l → (Memᴰ j l → a ≤ j) → k ≤ j
    go (inl e) x = omega arith
    go (inr d) x = let y = x d in omega arith

module _ (a b : ℕ) (l m : List ℕ) (later : (j : ℕ) → Memᴰ j l → a < j) (same : (j : ℕ) → Memᴰ j (a ∷ l) → Memᴰ j (b ∷ m)) where
  -- the first of one list is not after the first of the other
  firsts : (afterwards : (j : ℕ) → Memᴰ j m → b < j) → b ≤ a
  firsts afterwards = go (Memᴰ.cases_cons (same a (Memᴰ.head refl)))
    where
      go : (a ≡ b) ⊎ Memᴰ a m → b ≤ a
      go (inl e) = omega arith
      go (inr d) = let x = afterwards a d in omega arith

  -- and so those after the firsts are on both
  rests : b ≤ a → (j : ℕ) → Memᴰ j l → Memᴰ j m
  rests h j d = go (Memᴰ.cases_cons (same j (Memᴰ.tail d)))
    where
      go : (j ≡ b) ⊎ Memᴰ j m → Memᴰ j m
      go (inl e) = absurd (let x = later j d in omega arith)
      go (inr i) = i

pub ascending-unique : {k n : ℕ} (l m : List ℕ) → Ascending k l → Ascending n m → ((j : ℕ) → Memᴰ j l ↔ Memᴰ j m) → l ≡ m
ascending-unique [] [] x y same = refl
ascending-unique [] (b ∷ m) x y same = absurd (Memᴰ.not-nil ((same b).1 (Memᴰ.head refl)))
ascending-unique (a ∷ l) [] x y same = absurd (Memᴰ.not-nil ((same a).0 (Memᴰ.head refl)))
ascending-unique (a ∷ l) (b ∷ m) (one _ _ _ g x) (one _ _ _ h y) same =
    let u : (j : ℕ) → Memᴰ j l → a < j = λ j d. let z = not-before x j d in omega arith in
    let v : (j : ℕ) → Memᴰ j m → b < j = λ j d. let z = not-before y j d in omega arith in
    let p = firsts a b l m u (λ j. (same j).0) v in
    let q = firsts b a m l v (λ j. (same j).1) u in
    let e : a ≡ b = omega arith in
    ap₂ (λ (c : ℕ) (r : List ℕ). c ∷ r) e
    (ascending-unique l m x y (λ j. (rests a b l m u (λ i. (same i).0) p j, rests b a m l v (λ i. (same i).1) q j)))

-- ---- those of some numbers that have f

weaken : (k : ℕ) (l : List ℕ) → Ascending (suc k) l → Ascending k l
weaken k l (none j) = none k
weaken k l (one j a r h s) = one k a r (omega arith) s

module _ (f : ℕ → Bool) where
  pub those-ascend : (k m : ℕ) → Ascending k (those f k m)
  unfolding those
  those-ascend k zero = none k
  those-ascend k (suc m) = by-test (Ascending k) (f k)
      (λ e. one k k (those f (suc k) m) (omega arith) (those-ascend (suc k) m))
      (λ e. weaken k (those f (suc k) m) (those-ascend (suc k) m))

  -- who stands there has f, and who has f stands there
  those-have : (j k m : ℕ) → Memᴰ j (those f k m) → (k ≤ j) × (j < k + m) × (f j ≡ true)
  unfolding those
  those-have j k zero i = absurd (Memᴰ.not-nil i)
  those-have j k (suc m) i = by-test (λ (l : List ℕ). Memᴰ j l → (k ≤ j) × (j < k + suc m) × (f j ≡ true)) (f k)
      (λ e d. here e (Memᴰ.cases_cons d) (those-have j (suc k) m))
      (λ e d. later (those-have j (suc k) m d))
      i
    where
      later : (suc k ≤ j) × (j < suc k + m) × (f j ≡ true) → (k ≤ j) × (j < k + suc m) × (f j ≡ true)
      later (a, b, c) = (omega arith, omega arith, c)

      here : f k ≡ true → (j ≡ k) ⊎ Memᴰ j (those f (suc k) m) → (Memᴰ j (those f (suc k) m) → (suc k ≤ j) × (j < suc k + m) × (f j ≡ true))
          → (k ≤ j) × (j < k + suc m) × (f j ≡ true)
      here e (inl q) r = (omega arith, omega arith, ap f q ∙ e)
      here e (inr d) r = later (r d)

  having-there : (j k m : ℕ) → k ≤ j → j < k + m → f j ≡ true → Memᴰ j (those f k m)
  unfolding those
  having-there j k zero a b e = absurd (omega arith)
  having-there j k (suc m) a b e = same_or j k
      (λ q. by-test (Memᴰ j) (f k) (λ t. Memᴰ.head q) (λ t. cannot _ t (ap f (sym q) ∙ e)))
      (λ d. by-test (Memᴰ j) (f k)
      (λ t. Memᴰ.tail (having-there j (suc k) m (omega arith) (omega arith) e))
      (λ t. having-there j (suc k) m (omega arith) (omega arith) e))

  pub those-members : (j k m : ℕ) → Memᴰ j (those f k m) ↔ ((k ≤ j) × (j < k + m) × (f j ≡ true))
  those-members j k m = (those-have j k m, λ (a, b, e). having-there j k m a b e)

-- ---- the missing list

module _ (fixed : Fixed) (h : History) (first : ℕ) where
  -- there is one
  pub missing-is : first ≤ fixed.seats → Missing fixed h first (missing_from fixed h first)
  missing-is l = record {
    ascends = those-ascend (lacking h) first (fixed.seats - first);
    members = λ j.
        let t = those-members (lacking h) j first (fixed.seats - first) in
        (λ i. let (a, b, e) = t.0 i in (a, omega arith, e), λ (a, b, e). t.1 (a, omega arith, e));
  }

  -- and no other
  pub missing-unique : (l m : List ℕ) → Missing fixed h first l → Missing fixed h first m → l ≡ m
  missing-unique l m a b = ascending-unique l m a.ascends b.ascends (λ j. Iff.trans (a.members j) (Iff.symm (b.members j)))
