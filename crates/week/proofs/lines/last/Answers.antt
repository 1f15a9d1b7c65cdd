-- `week::lines::last` meets its contract. Assumes nothing.
use Rattle.week.proofs.Lining.{last-put}
use native.Mathlib.Omega.{arith}
use Rattle.week.proofs.lines.last.Goals as goal

pub returns : goal.returns
returns c = let s = c.args in
    let p = last-put s.w (omega (arith, c.well_formed, c.ranges)) (omega (arith, c.well_formed, c.ranges)) (omega (arith, c.well_formed, c.ranges)) s.at s.out.now c.requires c.decimal.ensures c.end-a.ensures c.literal.ensures c.end-b.ensures
    c.decimal-2.ensures c.end-c.ensures c.literal-2.ensures c.end-d.ensures c.decimal-3.ensures c.end-e.ensures c.literal-3.ensures c.end.ensures in record { ran = p.0; most = p.1 }
