-- `week::writing::entry` meets its contract. Assumes nothing.
use Rattle.week.proofs.Packing.{entry-put}
use Rattle.week.proofs.writing.entry.Goals as goal

pub returns : goal.returns
returns c = entry-put c.args.body c.args.len c.args.at c.args.hash.now c.args.out.now c.requires.2 c.requires.3 c.write.ensures.out_after c.write-2.ensures.out_after c.literal.ensures c.end.ensures
