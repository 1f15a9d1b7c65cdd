-- `choke_seats` meets its contract: each seat in turn. Assumes nothing.
use Rattle.std.proofs.Common.{◌∙◌, ap, arith}
use Rattle.std.proofs.lemmas.List.{get_or_default}
use Rattle.yard_tables.specs.Seats.{cleared}
use Rattle.yard_scans.proofs.Passes.{choke_by, each_next, each-end}
use Rattle.yard_scans.proofs.choke_seats.Goals as goal

pub loop-s-preserved : goal.loop-s-preserved
loop-s-preserved c =
    let l = c.loop-s in
    each_next choke_by l.seats l.s-index c.choke.result (omega arith) (c.choke.ensures ∙ ap (choke_by l.s-index) (get_or_default l.seats l.s-index _ cleared (omega arith))) ∙ l.invariant

pub returns : goal.returns
returns c = each-end choke_by c.args.seats.now c.loop-s.seats c.loop-s.s-index (omega arith) c.loop-s.invariant
