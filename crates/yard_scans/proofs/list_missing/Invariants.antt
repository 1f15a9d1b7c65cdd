-- The page so far, carried on over the seats left, is the whole page.
use Rattle.std.proofs.Common.{◌≡◌, ◌≤◌, length, drop}
use Rattle.yard_scans.proofs.Passes.{list_from, listing}
use Rattle.yard_scans.specs.Pages.{empty_page}
use Rattle.yard_scans.proofs.list_missing.Given as goal

abbrev pub invariant-loop-i : goal.invariant-loop-i
invariant-loop-i l = record {
  written : l.listed.written ≤ l.listed.total;
  total : l.listed.total ≤ l.i;
  rest : list_from l.asked (drop l.i l.seats) l.i (listing l.listed l.page) ≡ list_from l.asked l.seats 0 (listing (empty_page (length l.seats)) l.initial.page);
}
