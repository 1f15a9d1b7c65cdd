-- FIPS 180-4, words of 32 bits: a word is a number below 2 ^ 32. Assumes nothing: these are definitions.
use Rattle.std.specs.Prelude.{ℕ, ◌+◌, ◌-◌, ◌*◌, ◌/◌, ◌%◌, ◌^◌, List, take, drop, bit_and, bit_or, bit_xor}
use Rattle.refusal.specs.BigEndian.{big_endian_of}

-- 3.2, 2: addition modulo 2 ^ 32
abbrev pub add32 : ℕ → ℕ → ℕ
add32 x y = (x + y) % 2 ^ 32

-- 2.2.2: the complement of each bit
abbrev pub not32 : ℕ → ℕ
not32 x = 2 ^ 32 - 1 - x

-- 3.2, 5: x turned to the left by n places
abbrev pub rotl : ℕ → ℕ → ℕ
rotl n x = bit_or (x * 2 ^ n % 2 ^ 32) (x / 2 ^ (32 - n))

-- 4.1.1, 4.1.2: at each bit, y's where x has 1 and z's where it has 0
abbrev pub ch : ℕ → ℕ → ℕ → ℕ
ch x y z = bit_xor (bit_and x y) (bit_and (not32 x) z)

-- 4.1.1: at each bit, whether an odd number of the three have 1
abbrev pub parity : ℕ → ℕ → ℕ → ℕ
parity x y z = bit_xor (bit_xor x y) z

-- 4.1.1, 4.1.2: at each bit, what two of the three have
abbrev pub maj : ℕ → ℕ → ℕ → ℕ
maj x y z = bit_xor (bit_xor (bit_and x y) (bit_and x z)) (bit_and y z)

-- 3.1, 5.2.1: word number t of a block, the most significant byte first
abbrev pub word : List ℕ → ℕ → ℕ
word b t = big_endian_of (take 4 (drop (4 * t) b))
