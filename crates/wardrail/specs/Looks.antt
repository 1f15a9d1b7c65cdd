-- What stands at a place of a text says to C, in numbers. Assumes nothing: these are definitions.
use Rattle.std.specs.Prelude.{List, [], ◌∷◌, ℕ}
use Rattle.bencode_walk.specs.Walk.{Head, string, integer, long, list, dictionary, end}

-- 1 for a string, 2 for an integer, 3 for one outside 64 bits, 4 for a list, 5 for a dictionary, 6 for an end; first byte and length of a
-- string's bytes, or of the sign and digits of an integer outside 64 bits; the place past it, or of the first thing in a list or dictionary
abbrev pub look_detail : Head → List ℕ
look_detail (string from len q) = 1 ∷ from ∷ len ∷ q ∷ []
look_detail (integer z q) = 2 ∷ 0 ∷ 0 ∷ q ∷ []
look_detail (long from len q) = 3 ∷ from ∷ len ∷ q ∷ []
look_detail (list q) = 4 ∷ 0 ∷ 0 ∷ q ∷ []
look_detail (dictionary q) = 5 ∷ 0 ∷ 0 ∷ q ∷ []
look_detail (end q) = 6 ∷ 0 ∷ 0 ∷ q ∷ []
