-- `links::writing::escaped_size` meets its contract. Assumes nothing.
use mathlib.Core.Path.{◌≡◌}
use Prim.Native.Nat.{◌+◌, ◌*◌, ◌≤◌}
use lib.ListN.{length, drop}
use Rattle.links.specs.Writing.{escaped}
use Rattle.links.proofs.writing.escaped_size.Given as goal

abbrev pub invariant-loop-b : goal.invariant-loop-b
invariant-loop-b l = (l.count + length (escaped (drop l.b-index l.bytes)) ≡ length (escaped l.bytes)) × (l.count ≤ 3 * l.b-index)
