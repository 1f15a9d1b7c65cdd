-- `week::writing::hash_one` meets its contract. Assumes nothing.
use Rattle.std.specs.Prelude.{Err}
use mathlib.Core.Path.{ap}
use Rattle.week.proofs.Packing.{one_kept, one-refused}
use Rattle.week.proofs.writing.hash_one.Goals as goal

pub returns-in-Ok : goal.returns-in-Ok
returns-in-Ok c = one_kept c.args.body.now _ _ c.args.i c.args.hashes.now c.kept.new.hashes _ c.info_hash.ensures c.kept.result c.in-Ok.is c.kept.ensures

pub returns-in-Err : goal.returns-in-Err
returns-in-Err c = one-refused c.args.body.now _ _ c.args.i c.args.hashes.now c.args.hashes.now _ c.info_hash.ensures c.in-Err.is (ap Err c.refuse.ensures)
