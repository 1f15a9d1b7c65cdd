-- `week::writing::stored` meets its contract. Assumes nothing.
use Rattle.std.specs.Prelude.{Err}
use mathlib.Core.Path.{ap}
use Rattle.week.specs.Noted.{packages_by}
use Rattle.week.proofs.Packing.{file-length, file-put, file-long, file-room, file-whole}
use Rattle.week.proofs.writing.stored.Goals as goal

pub returns-then-size-gt-TEXT : goal.returns-then-size-gt-TEXT
returns-then-size-gt-TEXT c = file-long (packages_by c.args.lengths.now c.args.bodies.now c.args.hashes.now) (file-length c.args.lengths.now c.args.bodies.now c.args.hashes.now c.requires.1 c.requires.2) c.args.out.now c.if-size-gt-TEXT.true (ap Err c.refuse.ensures)

pub returns-then-out-size : goal.returns-then-out-size
returns-then-out-size c = file-room (packages_by c.args.lengths.now c.args.bodies.now c.args.hashes.now) (file-length c.args.lengths.now c.args.bodies.now c.args.hashes.now c.requires.1 c.requires.2) c.args.out.now c.if-size-gt-TEXT.false c.if-out-size.true (ap Err c.refuse-then-out-size.ensures)

pub returns : goal.returns
returns c = file-whole (packages_by c.args.lengths.now c.args.bodies.now c.args.hashes.now) (file-length c.args.lengths.now c.args.bodies.now c.args.hashes.now c.requires.1 c.requires.2) c.args.out.now c.if-size-gt-TEXT.false c.if-out-size.false (file-put c.args.lengths.now c.args.bodies.now c.args.hashes.now c.requires.1 c.requires.2 c.args.out.now c.if-out-size.false c.write.ensures.out_after c.entries-at.ensures c.literal.ensures c.end.ensures)
