-- SHA-1 as FIPS 180-4 defines it. A word is a number below 2 ^ 32, a message a list of bytes. Assumes nothing: these are definitions.
use Rattle.std.specs.Prelude.{ℕ, zero, suc, ◌-◌, cond, List, [], ◌∷◌, ◌++◌, ltb, get_or}
use Rattle.std.specs.Int.Bits.{bit_xor}
use Rattle.refusal.specs.BigEndian.{bytes_of}
use Rattle.hash_digest.specs.Words.{add32, rotl, ch, parity, maj, word}
use Rattle.hash_digest.specs.Message.{pad, hashed}
use Rattle.hash_sha1.specs.declared.block.Hash.{Hash}

-- 4.1.1: the function of round t
abbrev pub f : ℕ → ℕ → ℕ → ℕ → ℕ
f t x y z = cond (ltb t 20) (ch x y z) (cond (ltb t 40) (parity x y z) (cond (ltb t 60) (maj x y z) (parity x y z)))

-- 4.2.1: the constant of round t
abbrev pub k : ℕ → ℕ
k t = cond (ltb t 20) 0x5a827999 (cond (ltb t 40) 0x6ed9eba1 (cond (ltb t 60) 0x8f1bbcdc 0xca62c1d6))

-- 5.3.1: the initial hash value
abbrev pub initial : Hash
initial = record { a = 0x67452301; b = 0xefcdab89; c = 0x98badcfe; d = 0x10325476; e = 0xc3d2e1f0 }

-- 6.1.2, step 1: word t of the message schedule from 16 on, by those before it
abbrev pub mixed : List ℕ → ℕ → ℕ
mixed w t = rotl 1 (bit_xor (bit_xor (bit_xor (get_or w (t - 3) 0) (get_or w (t - 8) 0)) (get_or w (t - 14) 0)) (get_or w (t - 16) 0))

-- 6.1.2, step 1: the first t words of the message schedule of a block
unfoldable pub schedule : List ℕ → ℕ → List ℕ
schedule b zero = []
schedule b (suc t) = let w = schedule b t in w ++ (cond (ltb t 16) (word b t) (mixed w t) ∷ [])

-- 6.1.2, step 3: one round
abbrev pub step : Hash → ℕ → ℕ → ℕ → Hash
step h f k w =
    record {
      a = add32 (add32 (add32 (add32 (rotl 5 h.a) f) h.e) k) w;
      b = h.a;
      c = rotl 30 h.b;
      d = h.c;
      e = h.d;
    }

-- 6.1.2, steps 2 and 3: the first t rounds on the schedule w
unfoldable pub rounds : Hash → List ℕ → ℕ → Hash
rounds h w zero = h
rounds h w (suc t) = let g = rounds h w t in step g (f t g.b g.c g.d) (k t) (get_or w t 0)

-- 6.1.2, step 4: the sum of two hash values, word by word
abbrev pub plus : Hash → Hash → Hash
plus g h = record { a = add32 g.a h.a; b = add32 g.b h.b; c = add32 g.c h.c; d = add32 g.d h.d; e = add32 g.e h.e }

-- 6.1.2: the hash value after one more block
unfoldable pub compress : Hash → List ℕ → Hash
compress h b = plus (rounds h (schedule b 80) 80) h

-- 6.1.2: the five words of a hash value as bytes
abbrev pub output : Hash → List ℕ
output h = bytes_of 4 h.a ++ bytes_of 4 h.b ++ bytes_of 4 h.c ++ bytes_of 4 h.d ++ bytes_of 4 h.e

-- 6.1: the digest of a message
unfoldable pub sha1 : List ℕ → List ℕ
sha1 m = output (hashed compress initial (pad m))
