-- `week::writing::kept` meets its contract. Assumes nothing.
use Rattle.std.specs.Prelude.{Err}
use mathlib.Core.Path.{refl, sym, ap, ◌∙◌}
use Prim.Native.Nat.{◌*◌}
use native.Mathlib.Omega.{arith}
use Rattle.bencode_writer.proofs.Runs.{put-ran}
use Rattle.week.proofs.Packing.{given-before}
use Rattle.week.proofs.writing.kept.Goals as goal

pub returns-then-given : goal.returns-then-given
returns-then-given c = given-before c.args.hash.now c.args.i c.args.hashes.now c.given.ensures c.if-given.true (ap Err c.refuse.ensures)

pub returns : goal.returns
returns c = (sym c.given.ensures ∙ c.if-given.false, (put-ran c.args.hash.now (20 * c.args.i) c.args.hashes.now (omega arith) c.literal.ensures refl).out)
