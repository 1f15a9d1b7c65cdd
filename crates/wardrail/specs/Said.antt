-- What a call says to C. Assumes nothing: these are definitions.
use Rattle.std.specs.Prelude.{◌≡◌, ℕ, ◌+◌, ◌*◌, ◌/◌, ◌%◌, ◌^◌}
use Rattle.refusal.specs.Paper.{Outcome, taken, refused}

-- the word that is answered: 0 for what is taken; of a refusal document 01's number in the lowest 8 bits, and in the 56 above them the place
abbrev pub word_of : {A : Type 0} → Outcome A → ℕ
word_of (taken x) = 0
word_of (refused n p) = n + 256 * (p % 2 ^ 56)

-- what C reads from that word: wardrail_number and wardrail_place of host/wardrail.h
abbrev pub number_in : ℕ → ℕ
number_in w = w % 256

abbrev pub place_in : ℕ → ℕ
place_in w = w / 256 % 2 ^ 55

-- wardrail_refused_text there, by the top bit: 1 for the first of two texts, 2 for the second
abbrev pub text_in : ℕ → ℕ
text_in w = 1 + w / 2 ^ 63

-- what was lent for the rest of the answer, `was` before: what is taken, and after a refusal still what it was
abbrev pub left_of : {D : Type 0} → Outcome D → D → D
left_of (taken d) was = d
left_of (refused n p) was = was

-- of the outcome x the word r is answered, and what was lent for the rest, `was` before, is d then
pub record Tells {D : Type 0} (x : Outcome D) (was : D) (r : ℕ) (d : D) : Type 0 where
  pub word : r ≡ word_of x
  pub left : d ≡ left_of x was
