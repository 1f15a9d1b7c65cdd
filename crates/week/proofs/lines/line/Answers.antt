-- `week::lines::line` meets its contract. Assumes nothing.
use Rattle.week.proofs.Lining.{line-put}
use native.Mathlib.Omega.{arith}
use Rattle.week.proofs.lines.line.Goals as goal

pub returns : goal.returns
returns c = let s = c.args in
    let h = c.requires in
    let p = line-put s.hash.now s.files s.total h.0 (omega (arith, c.ranges)) (omega (arith, c.ranges)) s.at s.out.now h.1 c.small_hex.ensures c.end-a.ensures c.literal.ensures c.end-b.ensures
    c.decimal.ensures c.end-c.ensures c.literal-2.ensures c.end-d.ensures c.decimal-2.ensures c.end-e.ensures c.literal-3.ensures c.end.ensures in record { ran = p.0; most = p.1 }
