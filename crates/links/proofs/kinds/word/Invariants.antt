-- `links::kinds::word` meets its contract. Assumes nothing.
use mathlib.Core.Path.{◌≡◌}
use Prim.Native.Nat.{◌+◌}
use lib.ListN.{drop}
use Rattle.links.specs.Places.{common}
use Rattle.links.proofs.kinds.word.Given as goal

abbrev pub invariant-loop-count : goal.invariant-loop-count
invariant-loop-count l = common (drop l.from l.text) l.word ≡ l.count + common (drop (l.from + l.count) l.text) (drop l.count l.word)
