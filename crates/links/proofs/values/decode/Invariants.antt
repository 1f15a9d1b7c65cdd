-- `links::values::decode` meets its contract. Assumes nothing.
use Rattle.links.proofs.Decoding.{Decoding}
use Rattle.links.proofs.values.decode.Given as goal

abbrev pub invariant-loop-i : goal.invariant-loop-i
invariant-loop-i l = Decoding l.text l.from l.size l.initial.out l.at l.i l.out
