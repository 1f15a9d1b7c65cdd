-- What the passes over a bitfield have found and left before piece or byte n: contracts of inner functions cite these. Assumes nothing: these are definitions.
-- They need not be believed: `added_is`, `over-is`, `raised_is`, `merged-is` and `spare-is` of yard_hearing/proofs/Passing.antt tie them to yard_tables/specs.
use Rattle.std.specs.Prelude.{Bool, true, false, not, ◌&&◌, ◌||◌, List, ℕ, zero, suc, ◌+◌, ◌/◌, ◌%◌, ◌-◌, min, leb, get_or}
use Rattle.std.specs.Int.Bits.{bit_or}
use Rattle.yard_tables.specs.Counting.{bit, some}
use Rattle.yard_tables.specs.Rows.{digit, bit_at}
use Rattle.yard_tables.proofs.Sweeps.{sweep}
use Rattle.yard_hearing.specs.declared.row.News.{News}

-- piece p is in the bits, and not in the row whose first byte stands at a place
abbrev pub new_at : List ℕ → ℕ → List ℕ → ℕ → Bool
new_at rows at bits p = bit_at bits p && not (digit (7 - p % 8) (get_or rows (at + p / 8) 0))

-- one piece more, new or not, that has so many holders
abbrev pub noted : News → Bool → ℕ → ℕ → News
noted a b holders top = record { added = a.added + bit b; over = a.over || (b && leb top holders) }

abbrev pub nothing : News
nothing = record { added = 0; over = false }

-- the new pieces below n, and whether one of them has as many holders as it may
unfoldable pub checked : List ℕ → ℕ → List ℕ → List ℕ → ℕ → ℕ → News
checked rows at bits holders top zero = nothing
checked rows at bits holders top (suc n) = noted (checked rows at bits holders top n) (new_at rows at bits n) (get_or holders n 0) top

-- a count, one up where b; it stops at the largest number of 16 bits, which no checked count comes near
abbrev pub up : Bool → ℕ → ℕ
up true x = min (x + 1) 65535
up false x = x

-- the holder counts with the new pieces below n
unfoldable pub raised : List ℕ → ℕ → List ℕ → ℕ → List ℕ → List ℕ
raised rows at bits n holders = sweep 0 (λ p. p) (λ p x. up (new_at rows at bits p) x) n holders

-- the rows with the first n bytes of the bits
unfoldable pub merged : ℕ → List ℕ → ℕ → List ℕ → List ℕ
merged at bits n rows = sweep 0 (λ k. at + k) (λ k x. bit_or x (get_or bits k 0)) n rows

-- a bit below n is set past the last piece
unfoldable pub spare_below : ℕ → List ℕ → ℕ → Bool
spare_below pieces bits n = some n (λ p. leb pieces p && bit_at bits p)
