-- `bencode::short::sized` meets its contract. Assumes nothing.
use Rattle.bencode_scalar.proofs.Decimal.{Reading}
use Rattle.bencode.proofs.short.sized.Given as goal

abbrev pub invariant-loop-i : goal.invariant-loop-i
invariant-loop-i l = Reading l.text l.at l.acc l.i l.size
