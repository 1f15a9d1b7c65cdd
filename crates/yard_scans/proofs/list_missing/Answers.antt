-- `list_missing` meets its contract: the page so far, carried on over the seats left, until none is left. Assumes nothing.
use Rattle.std.proofs.Common.{ℕ, List, ◌+◌, ◌≤◌, ◌∙◌, ap, sym, subst, drop, get_or}
use Rattle.std.proofs.lemmas.List.{get_or_default}
use Rattle.yard_tables.specs.Seats.{cleared}
use Rattle.yard_tables.specs.declared.Seat.{Seat}
use Rattle.yard_tables.specs.declared.Page.{Page}
use Rattle.yard_scans.specs.Pages.{page_step, line_step}
use Rattle.yard_scans.proofs.Steps.{step-bounds}
use Rattle.yard_scans.proofs.Passes.{Listing, listing, list_from, list_all, list-next, list-end}
use Rattle.yard_scans.proofs.list_missing.Goals as goal

pub loop-i-preserved : goal.loop-i-preserved
loop-i-preserved c =
    let a = c.args.asked in
    let ys = c.args.seats.now in
    let l = c.loop-i in
    let d = get_or_default ys l.i _ cleared c.loop-i-test.true in
    let p = c.list_step-listed.ensures.0 ∙ ap (λ (s : Seat). page_step a l.listed s l.i) d in
    let g = c.list_step-listed.ensures.1 ∙ ap (λ (s : Seat). line_step a l.listed s l.i l.page) d in
    let b = step-bounds a l.listed _ l.i l.page l.invariant.written l.invariant.total in
    record {
      written = subst (λ (q : Page). q.written ≤ q.total) (sym c.list_step-listed.ensures.0) b.0;
      total = subst (λ (q : Page). q.total ≤ l.i + 1) (sym c.list_step-listed.ensures.0) b.1;
      rest =
          ap (λ (q : Page). list_from a (drop (l.i + 1) ys) (l.i + 1) (listing q c.list_step-listed.new.page)) p
          ∙ ap (λ (m : List ℕ). list_from a (drop (l.i + 1) ys) (l.i + 1) (listing (page_step a l.listed (get_or ys l.i cleared) l.i) m)) g
          ∙ list-next a ys l.i (listing l.listed l.page) c.loop-i-test.true
          ∙ l.invariant.rest;
    }

pub returns : goal.returns
returns c =
    let l = c.loop-i in
    let e = list-end c.args.asked c.args.seats.now l.i (listing l.listed l.page) c.loop-i-test.false ∙ l.invariant.rest ∙ list_all c.args.asked c.args.seats.now c.args.page.now in
    (ap (λ (t : Listing). t.page) e, ap (λ (t : Listing). t.lines) e)
