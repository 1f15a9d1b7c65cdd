-- `torrent_blocks::rules::with_files` meets its contract: a total past 64 bits stops there, whatever is left. Assumes nothing.
use Rattle.std.proofs.Common.{arith, refl}
use Rattle.torrent_blocks.proofs.Steps.{total-start, total-next, total-past, total-done}
use Rattle.torrent_blocks.proofs.rules.with_files.Goals as goal

pub loop-n-init : goal.loop-n-init
loop-n-init c = (omega (arith, total-start c.args.lengths.now c.args.total.0), omega arith)

pub returns-in-None : goal.returns-in-None
returns-in-None c =
    let a = c.args in
    total-past a.lengths.now c.loop-n.n-index a.total.0 c.loop-n.all.0 _ (omega arith) c.loop-n.invariant.0 refl (omega arith)

pub loop-n-preserved : goal.loop-n-preserved
loop-n-preserved c =
    let a = c.args in
    let more = total-next a.lengths.now c.loop-n.n-index a.total.0 c.loop-n.all.0 _ (omega arith) c.loop-n.invariant.0 refl in
    (omega arith, omega arith)

pub returns : goal.returns
returns c =
    let a = c.args in
    total-done a.lengths.now c.loop-n.n-index a.total.0 c.loop-n.all.0 (omega arith) c.loop-n.invariant.0 c.loop-n.invariant.1
