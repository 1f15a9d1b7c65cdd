-- `week::lines::all` meets its contract. Assumes nothing.
use native.Mathlib.Omega.{arith}
use Rattle.bencode_writer.proofs.Runs.{ran_then, ran-as}
use Rattle.week.proofs.Lining.{lined-end, hash-there, lined-again, lines-taken}
use Rattle.week.proofs.lines.all.Goals as goal

pub slice_bounds-line-end : goal.slice_bounds-line-end
slice_bounds-line-end c = omega (arith, hash-there c.args.file.now c.args.w c.requires.0 c.loop-i.i (omega arith))

pub loop-i-preserved : goal.loop-i-preserved
loop-i-preserved c = lined-again c.args.file.now c.args.w c.requires.0 c.loop-i.i (omega arith) c.loop-i.invariant c.args.counts.now c.requires.3 (c.line-at.ensures.ran, c.line-at.ensures.most)

pub returns : goal.returns
returns c = record { ran = ran-as (ran_then (lined-end _ _ _ c.loop-i.invariant (omega arith)) c.last.ensures.ran) (lines-taken c.args.file.now c.args.w c.requires.0); most = omega (arith, c.requires, c.loop-i.invariant.near, c.loop-i.invariant.within, c.last.ensures.most) }
