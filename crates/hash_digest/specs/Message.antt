-- FIPS 180-4, from a message to the hash of its blocks of 64 bytes. A message is a list of bytes. Assumes nothing: these are definitions.
use Rattle.std.specs.Prelude.{ℕ, zero, suc, ◌-◌, ◌*◌, ◌/◌, ◌%◌, List, [], ◌∷◌, ◌++◌, length, take, drop, replicate}
use Rattle.refusal.specs.BigEndian.{bytes_of}

-- 5.1.1: the zero bytes after the byte 128 of a message of n bytes, the fewest with which 8 bytes are missing to whole blocks
abbrev pub zeros : ℕ → ℕ
zeros n = (119 - n % 64) % 64

-- 5.1.1: what is appended to a message of n bytes: the bit 1, zeros, and its length in bits as 8 bytes
unfoldable pub padding : ℕ → List ℕ
padding n = (128 ∷ []) ++ (replicate (zeros n) 0 ++ bytes_of 8 (8 * n))

-- 5.1.1: the padded message
abbrev pub pad : List ℕ → List ℕ
pad m = m ++ padding (length m)

-- 5.2.1: block number i of a padded message
abbrev pub block_of : List ℕ → ℕ → List ℕ
block_of p i = take 64 (drop (64 * i) p)

-- 6.1.2, 6.2.2: the hash value after n blocks of p, for the value before them and the function of a value and a block
module _ {H : Type 0} (compress : H → List ℕ → H) where
  unfoldable pub folded : H → List ℕ → ℕ → H
  folded first p zero = first
  folded first p (suc n) = compress (folded first p n) (block_of p n)

  -- the hash value after all whole blocks of p
  abbrev pub hashed : H → List ℕ → H
  hashed first p = folded first p (length p / 64)

-- the bytes after the whole blocks of m
abbrev pub rest : List ℕ → List ℕ
rest m = drop (64 * (length m / 64)) m

-- n bytes: those of l, as many as there is room for, and zeros after them
abbrev pub filled : ℕ → List ℕ → List ℕ
filled n l = take n (l ++ replicate n 0)
