-- `links::values::hash` meets its contract. Assumes nothing.
use Rattle.links.proofs.Decoding.{Hashing}
use Rattle.links.proofs.values.hash.Given as goal

abbrev pub invariant-loop-i : goal.invariant-loop-i
invariant-loop-i l = Hashing l.text l.from l.initial.hash l.i l.hash
