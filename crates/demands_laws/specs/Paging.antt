-- What following `next` from seat 0 on comes to. Assumes nothing: these are definitions.
use Rattle.std.specs.Prelude.{◌≡◌, ◌↔◌, Bool, true, ℕ, ◌<◌, length}
use mathlib.Core.List.{List, Memᴰ as In}
use Rattle.paging_laws.specs.Pages.{Printed, Yields}
use Rattle.yard_tables.specs.Counting.{count}
use Rattle.yard_laws.specs.Says.{Ascending}

-- the pages yield the list, ascending, of all of n seats that are missing, and no other: as many as the total says on each of them
abbrev pub Paged : (ℕ → Bool) → ℕ → List (Printed ℕ) → ℕ → Type 0
Paged missing n pages next =
    (l : List ℕ) × Ascending 0 l × ((j : ℕ) → In j l ↔ ((j < n) × (missing j ≡ true))) × (length l ≡ count n missing) × Yields (count n missing) l n pages next
