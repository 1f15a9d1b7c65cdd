-- What a program does that starts a yard and then makes any calls, or asks for a page of the missing list: each as its own contract permits it. Assumes nothing.
use Rattle.std.specs.Prelude.{◌≡◌, Bool, List, ℕ, ◌≤◌, ltb, length, get_or}
use Rattle.std.proofs.Common.{sym, ap, subst, ◌∙◌}
use Rattle.std.proofs.lemmas.List.Edits.{sets}
use Rattle.paging_laws.specs.Pages.{Printed, PageOf, Follows}
use Rattle.yard_tables.specs.Seats.{cleared}
use Rattle.yard_tables.specs.Looks.{is_missing}
use Rattle.yard_tables.specs.Tables.{Yard, yard_of}
use Rattle.yard_tables.specs.Step.{Call, step, written}
use Rattle.yard_tables.specs.declared.Head.{Head}
use Rattle.yard_telling.specs.Telling.{code_of, told_of, Looks}
use Rattle.yard_telling.specs.declared.Told.{Told}
use Rattle.yard_laws.specs.History.{History, sizes_of}
use Rattle.yard.proofs.Looking.{missing-changes-nothing, scarcest-changes-nothing, look-changes-nothing, has-changes-nothing, count-changes-nothing}
use Rattle.yard_laws.specs.Run.{Run, begins, goes_on}
use Rattle.yard_laws.specs.Damage.{Fit}
use Rattle.demands_laws.specs.Paging.{Paged}
use Rattle.demands_laws.proofs.Runs.{start-taken}
use Rattle.demands_laws.proofs.Paging.{missing_seats, page-of, paged}
use Rattle.demands.specs.One.{Lent, before, after}
use Rattle.demands.specs.Program.{Tables, found, Permits, starts, sits, leaves, feeds, chokes, interests, lists, picks, looks, asks, counts, turns, Telling, tells-sit, tells-feed, tells-page, tells-scarcest, tells-has, tells-count, tells-round, Made, started, called, Asks, asked}

-- ---- so every call makes the step of its definition, and what a program made is a run of them

-- a look leaves the head
stays : (t : Tables) → after t.head ≡ before t.head → yard_of (after t.head) (before t.seats) (before t.rows) (before t.holders) ≡ found t
stays t e = ap (λ (h : Head). yard_of h (before t.seats) (before t.rows) (before t.holders)) e

pub permits-step : (t : Tables) (c : Call) (r : ℕ) (z : Yard) → Permits t c r z → (r ≡ code_of (step c (found t)).answer) × (z ≡ (step c (found t)).yard)
permits-step t c r z (starts p l k n e) = e
permits-step t c r z (sits n told e) = (e.0, e.2)
permits-step t c r z (leaves i n e) = e
permits-step t c r z (feeds i bytes n told e) = (e.0, e.2)
permits-step t c r z (chokes i on n frame e) = e.0
permits-step t c r z (interests i on n frame e) = e.0
permits-step t c r z (lists first n page told e) = (e.0.0, stays t e.2 ∙ sym (missing-changes-nothing (found t) first (length (before page))))
permits-step t c r z (picks n told e) = (e.0.0, stays t e.1 ∙ sym (scarcest-changes-nothing (found t)))
permits-step t c r z (looks i n seen e) = (e.0.0, stays t e.1 ∙ sym (look-changes-nothing (found t) i))
permits-step t c r z (asks i p n told e) = (e.0.0, stays t e.1 ∙ sym (has-changes-nothing (found t) i p))
permits-step t c r z (counts p n told e) = (e.0.0, stays t e.1 ∙ sym (count-changes-nothing (found t) p))
permits-step t c r z (turns n told e) = (e.0, e.2)

-- and the record is the one of its answer
pub telling-step : (t : Tables) (c : Call) (r : ℕ) (told : Lent Told) → Telling t c r told
    → (r ≡ code_of (step c (found t)).answer) × (after told ≡ told_of (step c (found t)).answer (before told))
telling-step t c r told (tells-sit n u e) = (e.0, e.1)
telling-step t c r told (tells-feed i bytes n u e) = (e.0, e.1)
telling-step t c r told (tells-page first n page u e) = e.0
telling-step t c r told (tells-scarcest n u e) = e.0
telling-step t c r told (tells-has i p n u e) = e.0
telling-step t c r told (tells-count p n u e) = e.0
telling-step t c r told (tells-round n u e) = (e.0, e.1)

pub made-run : (lent : Yard) (h : History) (y : Yard) → Made lent h y → Run lent h y
made-run lent h y (started t p l k z f e) =
    let m = permits-step t (Call.start p l k) 0 z e in
    begins (sizes_of p l k) z (start-taken (sizes_of p l k) lent (sym (m.0 ∙ ap (λ (x : Yard). code_of (step (Call.start p l k) x).answer) f)))
    (m.1 ∙ ap (λ (x : Yard). (step (Call.start p l k) x).yard) f)
made-run lent h y (called g t c r z m e) = goes_on g (found t) c z (made-run lent g (found t) m) (permits-step t c r z e).1

-- a page that is asked for leaves the tables, and pages from seat 0 on yield the list of the missing, where f says of each seat whether it is
pub asks-paged : (y : Yard) → Fit y → (f : ℕ → Bool) → ((j : ℕ) → is_missing y.head.pieces (get_or y.seats j cleared) ≡ f j)
    → (pages : List (Printed ℕ)) (next : ℕ) → Follows Asks (length y.seats) y 0 pages next → Paged f (length y.seats) pages next
asks-paged y fit f is = paged y fit f is Asks right
  where
    right : (a : ℕ) (p : Printed ℕ) (z : Yard) → a ≤ length y.seats → Asks y a p z → (z ≡ y) × PageOf ltb (missing_seats y fit f is) (length y.seats) a p
    right a p z h (asked t e r page told roomy c) =
        let call = Call.missing a (length (before page)) in (
          stays t c.2 ∙ e,
          page-of y fit f is a h (before page) (after page) roomy r (before told) (after told)
              (subst (λ (x : Yard). Looks (step call x).answer (before told) r (after told)) e c.0)
              (c.1 ∙ ap (λ (x : Yard). sets (before page) 0 (written call x)) e),
        )
