-- Rows of bits in bytes, the high bit of a byte first. Assumes nothing: these are definitions.
use Rattle.std.specs.Prelude.{Bool, List, [], ◌∷◌, ℕ, zero, suc, ◌+◌, ◌-◌, ◌*◌, ◌/◌, ◌%◌, ◌^◌, eqb, get_or, set, take, drop, replicate}
use Rattle.std.specs.Int.Bits.{bit_or}
use Rattle.std.proofs.lemmas.List.Edits.{sets}
use Rattle.torrent_blocks.specs.Rules.{rounded_up}

-- digit k of a number in binary, the lowest first
abbrev pub digit : ℕ → ℕ → Bool
digit zero b = eqb (b % 2) 1
digit (suc k) b = digit k (b / 2)

-- how many bytes a row of so many pieces has
abbrev pub width : ℕ → ℕ
width pieces = rounded_up pieces 8

-- bit p of a run of bytes
abbrev pub bit_at : List ℕ → ℕ → Bool
bit_at bs p = digit (7 - p % 8) (get_or bs (p / 8) 0)

-- bit p of row i, where rows have w bytes
abbrev pub has_in : ℕ → List ℕ → ℕ → ℕ → Bool
has_in w rows i p = digit (7 - p % 8) (get_or rows (i * w + p / 8) 0)

-- the bytes of row i
abbrev pub row_of : ℕ → List ℕ → ℕ → List ℕ
row_of w rows i = take w (drop (i * w) rows)

-- the bits of both
unfoldable pub or_bytes : List ℕ → List ℕ → List ℕ
or_bytes [] bs = []
or_bytes (a ∷ as') [] = a ∷ as'
or_bytes (a ∷ as') (b ∷ bs) = bit_or a b ∷ or_bytes as' bs

-- row i with one bit more, with the bits bs too, and with none
abbrev pub with_bit : ℕ → ℕ → ℕ → List ℕ → List ℕ
with_bit w i p rows = set rows (i * w + p / 8) (bit_or (get_or rows (i * w + p / 8) 0) (2 ^ (7 - p % 8)))

abbrev pub with_bits : ℕ → ℕ → List ℕ → List ℕ → List ℕ
with_bits w i bs rows = sets rows (i * w) (or_bytes (row_of w rows i) bs)

abbrev pub without_bits : ℕ → ℕ → List ℕ → List ℕ
without_bits w i rows = sets rows (i * w) (replicate w 0)
