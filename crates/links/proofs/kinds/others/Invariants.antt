-- `links::kinds::others` meets its contract. Assumes nothing.
use mathlib.Core.Path.{◌≡◌}
use Prim.Native.Nat.{◌+◌, ◌≤◌}
use lib.ListN.{drop}
use Rattle.links.specs.Reading.{is_hex}
use Rattle.links.specs.Places.{runs}
use Rattle.links.proofs.kinds.others.Given as goal

abbrev pub invariant-loop-i : goal.invariant-loop-i
invariant-loop-i l = (l.count ≤ l.i) × (l.count ≡ 0 → runs is_hex (drop l.from l.text) ≡ l.i + runs is_hex (drop (l.from + l.i) l.text))
