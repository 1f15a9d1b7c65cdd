-- What putting bytes into lent output comes to. Assumes nothing: these are definitions.
use Rattle.std.specs.Prelude.{◌≡◌, cond, List, ℕ, ◌+◌, leb, length}
use Rattle.std.proofs.lemmas.List.Edits.{sets}
use Rattle.refusal.specs.Paper.{Outcome, taken, refused, Left as Leaves}
pub use Rattle.refusal.specs.Paper.{left}
use Rattle.refusal.specs.Numbers.{room}

-- what a writer leaves: that answer, and the output
abbrev pub Left : Type 0
Left = Leaves ℕ

-- the bytes w at a place of the output o; where they do not fit, 37 and o as it was
unfoldable pub put_of : List ℕ → ℕ → List ℕ → Left
put_of w at o = cond (leb (at + length w) (length o)) (left (taken (at + length w)) (sets o at w)) (left (refused room 0) o)

-- what a call writes, to the front of the output o: 37 where it does not fit; a refusal leaves o as it was
abbrev pub puts : List ℕ → Outcome (List ℕ) → Left
puts o (taken w) = put_of w 0 o
puts o (refused n p) = left (refused n p) o

-- the place past what was put, and 0 of a refusal
abbrev pub place_past : Outcome ℕ → ℕ
place_past (taken q) = q
place_past (refused n p) = 0

-- the bytes w are put at a place of o, which leaves p, and r is the place past them
pub record Ran (w : List ℕ) (at : ℕ) (o : List ℕ) (r : ℕ) (p : List ℕ) : Type 0 where
  pub place : r ≡ at + length w
  pub out : p ≡ sets o at w
