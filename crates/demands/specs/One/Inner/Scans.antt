-- Demand 1 of `yard_scans`: one seat taken out or put back, and the passes over all. Assumes nothing.
use Rattle.std.specs.Prelude.{List, ◌≡◌, ℕ, get_or, set, length, replicate}
use Rattle.std.proofs.lemmas.List.Edits.{sets}
use Rattle.yard_tables.specs.Counting.{each}
use Rattle.yard_tables.specs.Looks.{page_of, lines_of}
use Rattle.yard_tables.specs.Ranks.{ranked, mark_step}
use Rattle.yard_tables.specs.Seating.{lowest_free}
use Rattle.yard_tables.specs.Seats.{cleared}
use Rattle.yard_tables.specs.declared.Head.{Head}
use Rattle.yard_tables.specs.declared.Page.{Page}
use Rattle.yard_tables.specs.declared.Seat.{Seat}
use Rattle.yard_tables.specs.declared.rank.Ranking.{Ranking}
use Rattle.yard_tables.specs.declared.round.Marks.{Marks}
use Rattle.yard_scans.specs.Pages.{as_lines}
use Rattle.yard_scans.specs.declared.Asked.{Asked}
use Rattle.demands.specs.One.{Lent, now}

-- yard_scans::seat_get
abbrev pub seat_get-ensures : (seats : Lent (List Seat)) (i : ℕ) → Seat → Type 0
seat_get-ensures seats i r = r ≡ get_or (now seats.entry) i cleared

-- yard_scans::seat_set
abbrev pub seat_set-ensures : (i : ℕ) (s : Seat) → Unit {0} → Lent (List Seat) → Type 0
seat_set-ensures i s r seats = now seats.exit ≡ set (now seats.entry) i s

-- yard_scans::lowest_free
abbrev pub lowest_free-ensures : (seats : Lent (List Seat)) → ℕ → Type 0
lowest_free-ensures seats r = r ≡ lowest_free (now seats.entry)

-- yard_scans::clear_seats
abbrev pub clear_seats-ensures : Unit {0} → Lent (List Seat) → Type 0
clear_seats-ensures r seats = now seats.exit ≡ replicate (length (now seats.entry)) cleared

-- yard_scans::rank_seats
abbrev pub rank_seats-ensures : (seats : Lent (List Seat)) (h : Head) → Ranking → Type 0
rank_seats-ensures seats h r = r ≡ ranked h.last (now seats.entry)

-- yard_scans::mark_seats
abbrev pub mark_seats-ensures : (marks : Marks) → Unit {0} → Lent (List Seat) → Type 0
mark_seats-ensures marks r seats = now seats.exit ≡ each (λ i s. mark_step marks s i) (now seats.entry)

-- yard_scans::list_missing
abbrev pub list_missing-ensures : (seats : Lent (List Seat)) (asked : Asked) → Page → Lent (List ℕ) → Type 0
list_missing-ensures seats asked r page =
    (r ≡ page_of asked.pieces asked.first asked.lines (now seats.entry))
    × (now page.exit ≡ sets (now page.entry) 0 (as_lines (lines_of asked.pieces asked.first asked.lines (now seats.entry))))
