-- `rank_seats` meets its contract: the seats left, ranked after those before, until none is left. Assumes nothing.
use Rattle.std.proofs.Common.{◌+◌, ◌∙◌, ap, drop}
use Rattle.std.proofs.lemmas.List.{get_or_default}
use Rattle.yard_tables.specs.Seats.{cleared}
use Rattle.yard_tables.specs.Ranks.{rank_from, rank_step}
use Rattle.yard_tables.specs.declared.Seat.{Seat}
use Rattle.yard_tables.specs.declared.rank.Ranking.{Ranking}
use Rattle.yard_scans.proofs.Passes.{rank-next, rank-end}
use Rattle.yard_scans.proofs.rank_seats.Goals as goal

pub loop-i-preserved : goal.loop-i-preserved
loop-i-preserved c =
    let ys = c.args.seats.now in
    let l = c.loop-i in
    let e = c.rank_step-best.ensures ∙ ap (λ (s : Seat). rank_step c.args.h.last l.best s l.i) (get_or_default ys l.i _ cleared c.loop-i-test.true) in
    ap (λ (r : Ranking). rank_from c.args.h.last (drop (l.i + 1) ys) (l.i + 1) r) e ∙ rank-next c.args.h.last ys l.i l.best c.loop-i-test.true ∙ l.invariant

pub returns : goal.returns
returns c = rank-end c.args.h.last c.args.seats.now c.loop-i.i c.loop-i.best c.loop-i-test.false ∙ c.loop-i.invariant
