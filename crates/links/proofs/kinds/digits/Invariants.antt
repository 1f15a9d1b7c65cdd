-- `links::kinds::digits` meets its contract. Assumes nothing.
use mathlib.Core.Path.{◌≡◌}
use Prim.Native.Nat.{◌+◌}
use lib.ListN.{drop}
use Rattle.links.specs.Reading.{is_hex}
use Rattle.links.specs.Places.{runs}
use Rattle.links.proofs.kinds.digits.Given as goal

abbrev pub invariant-loop-count : goal.invariant-loop-count
invariant-loop-count l = runs is_hex (drop l.from l.text) ≡ l.count + runs is_hex (drop (l.from + l.count) l.text)
