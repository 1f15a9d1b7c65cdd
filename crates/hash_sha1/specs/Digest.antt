-- What hashing a message, and comparing its digest, come to. Assumes nothing: these are definitions.
use Rattle.std.specs.Prelude.{Bool, true, false, cond, ◌&&◌, List, [], ◌∷◌, ℕ, leb, eqb, length}
use Rattle.refusal.specs.Paper.{Outcome, taken, refused, Left as Leaves}
pub use Rattle.refusal.specs.Paper.{left}
use Rattle.refusal.specs.Numbers.{long}
use Rattle.refusal.specs.Limits.{longest_piece}
use Rattle.hash_sha1.specs.Sha1.{sha1}

-- what a call leaves: that answer, and what the lent 20 bytes hold then
abbrev pub Left : Type 0
Left = Leaves (Unit {0})

-- the digest of m written over o; of more than 16,777,216 bytes none: 8 at 0, and o as it was
unfoldable pub digest_of : List ℕ → List ℕ → Left
digest_of m o = cond (leb (length m) longest_piece) (left (taken tt) (sha1 m)) (left (refused long 0) o)

-- whether two lists of bytes are the same
unfoldable pub same : List ℕ → List ℕ → Bool
same [] [] = true
same [] (b ∷ y) = false
same (a ∷ x) [] = false
same (a ∷ x) (b ∷ y) = eqb a b && same x y

-- whether the digest of m is the expected one
unfoldable pub agreement_of : List ℕ → List ℕ → Outcome Bool
agreement_of m expected = cond (leb (length m) longest_piece) (taken (same (sha1 m) expected)) (refused long 0)
