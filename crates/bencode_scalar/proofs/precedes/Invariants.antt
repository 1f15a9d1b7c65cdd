-- `bencode_scalar::precedes` meets its contract. Assumes nothing.
use Rattle.std.proofs.Common.{length}
use Rattle.bencode_scalar.proofs.Keys.{Comparing}
use Rattle.bencode_scalar.proofs.precedes.Given as goal

abbrev pub invariant-loop-x : goal.invariant-loop-x
invariant-loop-x l = Comparing l.a l.b (length l.yielded)
