-- `links::writing::value` meets its contract. Assumes nothing.
use lib.ListN.{drop}
use Rattle.links.specs.Writing.{escaped}
use Rattle.bencode_writer.proofs.Runs.{Going}
use Rattle.links.proofs.writing.value.Given as goal

abbrev pub invariant-loop-b : goal.invariant-loop-b
invariant-loop-b l = Going (escaped l.bytes) l.initial.to l.initial.out (escaped (drop l.b-index l.bytes)) l.to l.out
