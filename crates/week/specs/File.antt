-- A week's file as document 02 has it: the table of its packages, then their bodies. Assumes nothing: these are definitions.
use Rattle.std.specs.Prelude.{List, [], ◌∷◌, ◌++◌, ℕ, ◌+◌, ◌*◌, length}
use Rattle.refusal.specs.BigEndian.{bytes_of}

-- a package: its body and its info hash
pub record Package : Type 0 where
  pub body : List ℕ
  pub hash : List ℕ

-- the table's entries, of packages of which the first body stands at a place: offset, length and hash of each
unfoldable pub entries_from : ℕ → List Package → List ℕ
entries_from at [] = []
entries_from at (p ∷ ps) = bytes_of 4 at ++ (bytes_of 4 (length p.body) ++ (p.hash ++ entries_from (at + length p.body) ps))

-- the bodies, one after the other
unfoldable pub bodies_of : List Package → List ℕ
bodies_of [] = []
bodies_of (p ∷ ps) = p.body ++ bodies_of ps

-- how many bytes the table of n packages has: 4 for their number, and 28 for each
abbrev pub table_bytes : ℕ → ℕ
table_bytes n = 4 + 28 * n

-- the file: how many packages there are, their entries, and their bodies, of which the first stands right after the table
unfoldable pub file_of : List Package → List ℕ
file_of ps = bytes_of 4 (length ps) ++ (entries_from (table_bytes (length ps)) ps ++ bodies_of ps)
