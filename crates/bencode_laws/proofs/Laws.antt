-- When a text is refused, by which number and at which place: each of 1, 2, 3, 5, 6, 7 and 8 exactly for its cause in document 01, and no text by 4. Assumes nothing.
use mathlib.Core.Path.{◌≡◌, ◌∙◌}
use mathlib.Core.Logic.{◌↔◌}
use mathlib.Core.List.{List}
use Prim.Native.Nat.{ℕ, ◌<◌, ◌≤◌}
use lib.ListN.{length}
use Rattle.refusal.specs.Numbers.{cut, byte, order, deep, many, after, long}
use Rattle.refusal.specs.Limits.{most_text}
use Rattle.refusal.specs.Paper.{refused}
use Rattle.bencode.specs.Decode.{decode}
use Rattle.bencode_laws.specs.Causes.{Cut, Byte, Order, Deep, Many, After}
use Rattle.bencode_laws.proofs.Every.{every-cut, every_byte, every-order, every-deep, every-many, every-after}
use Rattle.bencode_laws.proofs.Whole.{decode-short, decode-long, caused, refuses, long-only, one_of}
pub use Rattle.bencode_laws.proofs.Whole.{Numbered, eight}

-- 1
pub cut-law : (s : List ℕ) (p : ℕ) → length s ≤ most_text → decode s ≡ refused cut p ↔ Cut s p
cut-law s p h = (caused s cut p h, λ c. refuses s cut p h (every-cut s c))

-- 2
pub byte-law : (s : List ℕ) (p : ℕ) → length s ≤ most_text → decode s ≡ refused byte p ↔ Byte s p
byte-law s p h = (caused s byte p h, λ c. refuses s byte p h (every_byte s c))

-- 3
pub order-law : (s : List ℕ) (p : ℕ) → length s ≤ most_text → decode s ≡ refused order p ↔ Order s p
order-law s p h = (caused s order p h, λ c. refuses s order p h (every-order s c))

-- 5
pub deep-law : (s : List ℕ) (p : ℕ) → length s ≤ most_text → decode s ≡ refused deep p ↔ Deep s p
deep-law s p h = (caused s deep p h, λ c. refuses s deep p h (every-deep s c))

-- 6
pub many-law : (s : List ℕ) (p : ℕ) → length s ≤ most_text → decode s ≡ refused many p ↔ Many s p
many-law s p h = (caused s many p h, λ c. refuses s many p h (every-many s c))

-- 7
pub after-law : (s : List ℕ) (p : ℕ) → length s ≤ most_text → decode s ≡ refused after p ↔ After s p
after-law s p h = (caused s after p h, λ c. decode-short s h ∙ every-after s c)

-- 8
pub long-law : (s : List ℕ) (p : ℕ) → (decode s ≡ refused long p → (most_text < length s) × (p ≡ 0)) × (most_text < length s → decode s ≡ refused long 0)
long-law s p = (long-only s p, decode-long s)

-- and no other number
pub none_other : (s : List ℕ) (r p : ℕ) → decode s ≡ refused r p → Numbered r
none_other = one_of
