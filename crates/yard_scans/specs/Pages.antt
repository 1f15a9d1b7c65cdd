-- One seat more on a page of the missing list. Assumes nothing: these are definitions.
-- They serve inner contracts alone and need not be believed: `list_all` and `lines_are` of yard_scans/proofs/Passes.antt tie them to yard_tables/specs/Looks.antt.
use Rattle.std.specs.Prelude.{cond, List, [], ◌∷◌, ℕ, ◌+◌, min, ltb, set}
use Rattle.yard_tables.specs.Looks.{is_missing}
use Rattle.yard_tables.specs.declared.Seat.{Seat}
use Rattle.yard_tables.specs.declared.Page.{Page}
use Rattle.yard_scans.specs.declared.Asked.{Asked}

-- a seat's number as 32 bits hold it
abbrev pub line_of : ℕ → ℕ
line_of i = min i 4294967295

unfoldable pub as_lines : List ℕ → List ℕ
as_lines [] = []
as_lines (i ∷ is) = line_of i ∷ as_lines is

-- a page before the first of n seats
abbrev pub empty_page : ℕ → Page
empty_page n = record { written = 0; total = 0; next = n }

-- a missing seat is counted; if it is asked for and there is room it is listed; else it may be the next
abbrev pub counted : Page → Page
counted p = record { written = p.written; total = p.total + 1; next = p.next }

abbrev pub listed : Page → Page
listed p = record { written = p.written + 1; total = p.total + 1; next = p.next }

abbrev pub passed : ℕ → Page → Page
passed i p = record { written = p.written; total = p.total + 1; next = min p.next i }

-- the page after seat i
unfoldable pub page_step : Asked → Page → Seat → ℕ → Page
page_step a p s i = cond (is_missing a.pieces s) (cond (ltb i a.first) (counted p) (cond (ltb p.written a.lines) (listed p) (passed i p))) p

-- and its lines
unfoldable pub line_step : Asked → Page → Seat → ℕ → List ℕ → List ℕ
line_step a p s i l = cond (is_missing a.pieces s) (cond (ltb i a.first) l (cond (ltb p.written a.lines) (set l p.written (line_of i)) l)) l
