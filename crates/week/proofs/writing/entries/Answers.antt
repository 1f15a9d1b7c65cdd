-- `week::writing::entries` meets its contract. Assumes nothing.
use Prim.Native.Nat.{◌*◌}
use Rattle.bencode_writer.proofs.Runs.{going-length}
use native.Mathlib.Omega.{arith}
use Rattle.week.proofs.Packing.{tabled_start, tabled-room, tabled-near, tabled-next, tabled-end, twenty-long}
use Rattle.week.proofs.writing.entries.Goals as goal

pub loop-i-init : goal.loop-i-init
loop-i-init c = tabled_start c.args.lengths.now c.args.hashes.now c.args.out.now

pub entry-at-requires : goal.entry-at-requires
entry-at-requires c = let near = tabled-near c.args.lengths.now c.args.hashes.now c.args.out.now c.loop-i.invariant (omega arith) c.requires.3 in (omega (arith, near), omega (arith, near), twenty-long (20 * c.loop-i.i) c.args.hashes.now (omega arith), tabled-room c.args.lengths.now c.args.hashes.now c.args.out.now c.loop-i.invariant (omega arith) c.requires.1 c.requires.2)

pub overflow_add-body-in-loop-i : goal.overflow_add-body-in-loop-i
overflow_add-body-in-loop-i c = omega (arith, tabled-near c.args.lengths.now c.args.hashes.now c.args.out.now c.loop-i.invariant (omega arith) c.requires.3)

pub loop-i-preserved : goal.loop-i-preserved
loop-i-preserved c = tabled-next c.args.lengths.now c.args.hashes.now c.args.out.now c.loop-i.invariant (omega arith) c.entry-at.ensures

pub shape_of-out : goal.shape_of-out
shape_of-out c = going-length c.loop-i.invariant.going

pub returns : goal.returns
returns c = tabled-end c.args.lengths.now c.args.hashes.now c.args.out.now c.loop-i.invariant (omega arith)
