-- What is wrong with a value that must be there: it is missing, of another kind, no number in its range. Assumes nothing: these are definitions.
-- Throughout, d is the place of a dictionary, p that of a value, and the last two arguments are the refusal's number and place.
use Rattle.std.specs.Prelude.{◌≡◌, List, ℕ, ◌≤◌, ℤ, pos}
use Rattle.refusal.specs.Numbers.{kind, range}
use Rattle.bencode.specs.Value.{Value, str, int}
use Rattle.bencode_walk.specs.Lookup.{Under, nothing, under}

-- what must be under a key is missing, or is wrong
pub data Lacks (d : ℕ) (u : Under) (Wrong : ℕ → Value → ℕ → ℕ → Type 0) : ℕ → ℕ → Type 0 where
  missing : u ≡ nothing → Lacks d u Wrong kind d
  wrong : (p : ℕ) (v : Value) (n q : ℕ) → u ≡ under p v → Wrong p v n q → Lacks d u Wrong n q

-- another kind than that which `of` makes
pub data Other {B : Type 0} (of : B → Value) (p : ℕ) : Value → ℕ → ℕ → Type 0 where
  other : (v : Value) → ((b : B) → v ≡ of b → ⊥) → Other of p v kind p

-- no string
pub data NoString (p : ℕ) : Value → ℕ → ℕ → Type 0 where
  no_string : (v : Value) → ((bs : List ℕ) → v ≡ str bs → ⊥) → NoString p v kind p

-- no integer, or one out of its range
pub data NoNumber (InRange : ℕ → Type 0) (p : ℕ) : Value → ℕ → ℕ → Type 0 where
  no-integer : (v : Value) → ((z : ℤ) → v ≡ int z → ⊥) → NoNumber InRange p v kind p
  out_of_range : (z : ℤ) → ((n : ℕ) → z ≡ pos n → InRange n → ⊥) → NoNumber InRange p (int z) range p

-- the range from 0 to most
abbrev pub UpTo : ℕ → ℕ → Type 0
UpTo most n = n ≤ most
