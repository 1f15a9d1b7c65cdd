-- `bencode_scalar::digits` meets its contract: its loop has read as much as it has passed. Assumes nothing.
use Rattle.bencode_scalar.proofs.Decimal.{Reading}
use Rattle.bencode_scalar.proofs.digits.Given as goal

abbrev pub invariant-loop-i : goal.invariant-loop-i
invariant-loop-i l = Reading l.text l.at l.acc l.i l.value
