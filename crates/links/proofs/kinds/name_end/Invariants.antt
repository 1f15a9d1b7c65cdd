-- `links::kinds::name_end` meets its contract. Assumes nothing.
use mathlib.Core.Path.{◌≡◌}
use Prim.Native.Nat.{◌+◌}
use lib.ListN.{drop}
use Rattle.links.specs.Link.{name_byte}
use Rattle.links.specs.Places.{runs}
use Rattle.links.proofs.kinds.name_end.Given as goal

abbrev pub invariant-loop-at : goal.invariant-loop-at
invariant-loop-at l = l.at + runs name_byte (drop l.at l.text) ≡ l.from + runs name_byte (drop l.from l.text)
