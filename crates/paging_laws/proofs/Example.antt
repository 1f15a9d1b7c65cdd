-- Small lists read page by page, by computation. Assumes nothing.
use mathlib.Core.Path.{◌≡◌, refl}
use mathlib.Core.Bool.{Bool, ◌&&◌, ◌||◌}
use mathlib.Core.List.{List, [], ◌∷◌, flat_map}
use Prim.Native.Nat.{ℕ}
use native.Mathlib.Omega.{arith}
use lib.Dec.{eqb, ltb}
use Rattle.paging_laws.specs.Pages.{from, Printed, PageOf, printed, Follows, asks, asks-on}

-- of six seats three are missing
abbrev list : List ℕ
list = 0 ∷ 2 ∷ 4 ∷ []

-- from a place on the list, between two, and from the end on
rests : from ltb 0 list ∷ from ltb 2 list ∷ from ltb 3 list ∷ from ltb 6 list ∷ [] ≡ list ∷ (2 ∷ 4 ∷ []) ∷ (4 ∷ []) ∷ [] ∷ []
rests = refl

-- a page of two lines, and one of five from where it leads
abbrev two : Printed ℕ
two = record { number = 0; room = 2; lines = 0 ∷ 2 ∷ []; total = 3; next = 4 }

abbrev five : Printed ℕ
five = record { number = 0; room = 5; lines = 4 ∷ []; total = 3; next = 6 }

two_is : PageOf ltb list 6 0 two
two_is = record { taken = refl; roomy = omega arith; written = refl; counted = refl; onward = refl }

five-is : PageOf ltb list 6 4 five
five-is = record { taken = refl; roomy = omega arith; written = refl; counted = refl; onward = refl }

-- so they are read one after the other, and have the list
abbrev Asks : ℕ → ℕ → Printed ℕ → ℕ → Type 0
Asks x a p z = PageOf ltb list 6 a p

read : Follows Asks 6 0 0 (two ∷ five ∷ []) 6
read = asks-on 0 0 0 6 two (five ∷ []) two_is (λ e. omega arith) (asks 0 0 4 five five-is)

whole : printed (two ∷ five ∷ []) ≡ list
unfolding flat_map
whole = refl

-- seats in three depots, by depot and then seat
abbrev before : ℕ × ℕ → ℕ × ℕ → Bool
before (d, i) (e, j) = ltb d e || (eqb d e && ltb i j)

abbrev seats : List (ℕ × ℕ)
seats = (0, 3) ∷ (2, 0) ∷ (2, 7) ∷ []

-- a page of one line from depot 1 on
line-is : PageOf before seats (3, 0) (1, 0) (record { number = 0; room = 1; lines = (2, 0) ∷ []; total = 3; next = (2, 7) })
line-is = record { taken = refl; roomy = omega arith; written = refl; counted = refl; onward = refl }
