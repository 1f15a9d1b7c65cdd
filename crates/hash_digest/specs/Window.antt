-- FIPS 180-4, 6.1.3: a message schedule of which sixteen words are kept. Assumes nothing: these are definitions.
-- They serve inner contracts alone and need not be believed: the contract of a hash speaks of its whole schedule.
use Rattle.std.specs.Prelude.{◌≡◌, ℕ, zero, suc, ◌+◌, ◌-◌, ◌%◌, ◌<◌, ◌≤◌, List, length, slice_index, slice_set}
use Rattle.hash_digest.specs.Words.{word}

-- how a word from 16 on is made: from three of the words before it, by how far before it they stand, and the one 16 before it
pub record Rule : Type 0 where
  pub mix : ℕ → ℕ → ℕ → ℕ → ℕ
  pub first : ℕ
  pub second : ℕ
  pub third : ℕ

-- it looks back, and no further than sixteen words
abbrev pub Near : Rule → Type 0
Near R = (1 ≤ R.first) × (R.first ≤ 16) × (1 ≤ R.second) × (R.second ≤ 16) × (1 ≤ R.third) × (R.third ≤ 16)

-- word i where all words stand in their order, and in a window
abbrev pub in_order_of : List ℕ → ℕ → ℕ
in_order_of s i = slice_index s i

abbrev pub in_window : List ℕ → ℕ → ℕ
in_window w i = slice_index w (i % 16)

-- word t by a rule, from the words as they stand somewhere
abbrev pub made : Rule → (ℕ → ℕ) → ℕ → ℕ
made R at t = R.mix (at (t - R.first)) (at (t - R.second)) (at (t - R.third)) (at (t - 16))

-- 6.1.2, 6.2.2, step 1: the first n words of s are the schedule of the block b by a rule
pub record Schedule (R : Rule) (b : List ℕ) (n : ℕ) (s : List ℕ) : Type 0 where
  pub early : (t : ℕ) → t < 16 → t < n → in_order_of s t ≡ word b t
  pub late : (t : ℕ) → 16 ≤ t → t < n → in_order_of s t ≡ made R (in_order_of s) t

-- w has room for sixteen words and holds the last sixteen, or all, of the first n words of s
abbrev pub Window : List ℕ → ℕ → List ℕ → Type 0
Window s n w = (length w ≡ 16) × ((i : ℕ) → i < n → n ≤ i + 16 → in_window w i ≡ in_order_of s i)

-- word t in the place of the one sixteen before it, made from the window as it was
unfoldable pub renewed : Rule → ℕ → List ℕ → List ℕ
renewed R t w = slice_set w (t % 16) (made R (in_window w) t)

-- n words from t on, each in turn
unfoldable pub moved : Rule → ℕ → ℕ → List ℕ → List ℕ
moved R t zero w = w
moved R t (suc n) w = renewed R (t + n) (moved R t n w)
