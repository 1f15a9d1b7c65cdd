-- Demand 1 of `yard_scans`: one seat taken out or put back, and the passes over all. Assumes nothing.
use Rattle.std.specs.Prelude.{List, refl, ℕ}
use Rattle.std.proofs.Common.{sym, ◌∙◌}
use Rattle.refusal.specs.Paper.{taken}
use Rattle.refusal.proofs.Outcomes.{not-refused}
use Rattle.yard_tables.specs.Tables.{listed}
use Rattle.yard_tables.specs.declared.Head.{Head}
use Rattle.yard_tables.specs.declared.Page.{Page}
use Rattle.yard_tables.specs.declared.Seat.{Seat}
use Rattle.yard_tables.specs.declared.round.Marks.{Marks}
use Rattle.yard_scans.specs.declared.Asked.{Asked}
use Rattle.demands.specs.One.{Lent, Determined, Determined1, Takes1}
use Rattle.demands.specs.One.Inner.Scans.{seat_get-ensures, seat_set-ensures, lowest_free-ensures, clear_seats-ensures, rank_seats-ensures, mark_seats-ensures, list_missing-ensures}

-- yard_scans::seat_get
pub seat_get-determined : (seats : Lent (List Seat)) (i : ℕ) → Determined (seat_get-ensures seats i)
seat_get-determined seats i r r' e f = e ∙ sym f

-- yard_scans::seat_set
pub seat_set-determined : (i : ℕ) (s : Seat) → Determined1 (seat_set-ensures i s)
seat_set-determined i s seats r r' seats₁ seats₂ e f = (refl, e ∙ sym f)

-- yard_scans::lowest_free
pub lowest_free-determined : (seats : Lent (List Seat)) → Determined (lowest_free-ensures seats)
lowest_free-determined seats r r' e f = e ∙ sym f

-- yard_scans::clear_seats
pub clear_seats-determined : Determined1 clear_seats-ensures
clear_seats-determined seats r r' seats₁ seats₂ e f = (refl, e ∙ sym f)

-- yard_scans::rank_seats
pub rank_seats-determined : (seats : Lent (List Seat)) (h : Head) → Determined (rank_seats-ensures seats h)
rank_seats-determined seats h r r' e f = e ∙ sym f

-- yard_scans::mark_seats
pub mark_seats-determined : (marks : Marks) → Determined1 (mark_seats-ensures marks)
mark_seats-determined marks seats r r' seats₁ seats₂ e f = (refl, e ∙ sym f)

-- yard_scans::list_missing
pub list_missing-determined : (seats : Lent (List Seat)) (asked : Asked) → Determined1 (list_missing-ensures seats asked)
list_missing-determined seats asked page r r' page₁ page₂ e f = (e.0 ∙ sym f.0, e.1 ∙ sym f.1)

pub list_missing-takes : (seats : Lent (List Seat)) (asked : Asked) → Takes1 (list_missing-ensures seats asked) (λ (r : Page). taken (listed r))
list_missing-takes seats asked r page e k = not-refused k.2
