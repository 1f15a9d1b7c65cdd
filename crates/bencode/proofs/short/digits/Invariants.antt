-- `bencode::short::digits` meets its contract. Assumes nothing.
use Rattle.bencode_scalar.proofs.Decimal.{Passing}
use Rattle.bencode.proofs.short.digits.Given as goal

abbrev pub invariant-loop-i : goal.invariant-loop-i
invariant-loop-i l = Passing l.text l.at l.i
