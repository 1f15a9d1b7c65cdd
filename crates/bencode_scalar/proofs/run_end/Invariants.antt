-- `bencode_scalar::run_end` meets its contract. Assumes nothing.
use Rattle.bencode_scalar.proofs.Decimal.{Passing}
use Rattle.bencode_scalar.proofs.run_end.Given as goal

abbrev pub invariant-loop-i : goal.invariant-loop-i
invariant-loop-i l = Passing l.text l.at l.i
