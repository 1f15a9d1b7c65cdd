-- What a link that is read says to C. Assumes nothing: these are definitions.
use Rattle.std.specs.Prelude.{◌≡◌, List, [], ◌∷◌, ℕ, None, Option, Some}
use Rattle.refusal.specs.Paper.{map}
use Rattle.links.specs.Reading.{Sizes, Left}
use Rattle.wardrail.specs.Said.{word_of, left_of}

-- 1 where a thing is given and else 0, and how many bytes it has
abbrev pub is_given : Option ℕ → ℕ
is_given None = 0
is_given (Some n) = 1

abbrev pub given_bytes : Option ℕ → ℕ
given_bytes None = 0
given_bytes (Some n) = n

-- of the name, and of the address
abbrev pub link_detail : Sizes → List ℕ
link_detail x = is_given x.name ∷ given_bytes x.name ∷ is_given x.address ∷ given_bytes x.address ∷ []

-- the word r is answered, what was lent for the rest, `was` before, is d then, and the three outputs are h, n and a, all as l has it
pub record ReadTo (l : Left) (was : List ℕ) (r : ℕ) (d h n a : List ℕ) : Type 0 where
  pub word : r ≡ word_of l.answer
  pub left : d ≡ left_of (map link_detail l.answer) was
  pub hash : h ≡ l.hash
  pub name : n ≡ l.name
  pub address : a ≡ l.address
