-- What a contract here permits is one answer, and one content of what is lent. Assumes nothing.
use mathlib.Core.Path.{◌≡◌, sym, ◌∙◌}
use mathlib.Core.List.{List}
use Prim.Native.Nat.{ℕ}
use lib.ListN.{length, get_or, set, replicate}
use lib.Seq.{sets}
use Rattle.yard_tables.specs.Seats.{cleared}
use Rattle.yard_tables.specs.Counting.{each}
use Rattle.yard_tables.specs.Ranks.{ranked, mark_step}
use Rattle.yard_tables.specs.Seating.{lowest_free}
use Rattle.yard_tables.specs.Looks.{page_of, lines_of}
use Rattle.yard_tables.specs.declared.Head.{Head}
use Rattle.yard_tables.specs.declared.Seat.{Seat}
use Rattle.yard_tables.specs.declared.Page.{Page}
use Rattle.yard_tables.specs.declared.rank.Ranking.{Ranking}
use Rattle.yard_tables.specs.declared.round.Marks.{Marks}
use Rattle.yard_scans.specs.declared.Asked.{Asked}
use Rattle.yard_scans.specs.Pages.{as_lines}

module _ (seats : List Seat) where
  pub get-determined : (i : ℕ) (r t : Seat) → r ≡ get_or seats i cleared → t ≡ get_or seats i cleared → r ≡ t
  get-determined i r t e f = e ∙ sym f

  pub set-determined : (i : ℕ) (s : Seat) (a b : List Seat) → a ≡ set seats i s → b ≡ set seats i s → a ≡ b
  set-determined i s a b e f = e ∙ sym f

  pub lowest-determined : (r t : ℕ) → r ≡ lowest_free seats → t ≡ lowest_free seats → r ≡ t
  lowest-determined r t e f = e ∙ sym f

  pub clear-determined : (a b : List Seat) → a ≡ replicate (length seats) cleared → b ≡ replicate (length seats) cleared → a ≡ b
  clear-determined a b e f = e ∙ sym f

  pub rank-determined : (h : Head) (r t : Ranking) → r ≡ ranked h.last seats → t ≡ ranked h.last seats → r ≡ t
  rank-determined h r t e f = e ∙ sym f

  pub mark-determined : (marks : Marks) (a b : List Seat) → a ≡ each (λ i s. mark_step marks s i) seats → b ≡ each (λ i s. mark_step marks s i) seats → a ≡ b
  mark-determined marks a b e f = e ∙ sym f

  pub list-determined : (x : Asked) (page : List ℕ) (r t : Page) (a b : List ℕ)
      → (r ≡ page_of x.pieces x.first x.lines seats) × (a ≡ sets page 0 (as_lines (lines_of x.pieces x.first x.lines seats)))
      → (t ≡ page_of x.pieces x.first x.lines seats) × (b ≡ sets page 0 (as_lines (lines_of x.pieces x.first x.lines seats)))
      → (r ≡ t) × (a ≡ b)
  list-determined x page r t a b (e, f) (g, h) = (e ∙ sym g, f ∙ sym h)
