-- `bencode_writer::store_decimal` meets its contract. The loop's invariant: storing the digits of what is left leaves what storing all leaves. Assumes nothing.
use Rattle.bencode_writer.proofs.Decimals.{Printing}
use Rattle.bencode_writer.proofs.store_decimal.Given as goal

abbrev pub invariant-loop-place : goal.invariant-loop-place
invariant-loop-place l = Printing l.n l.at l.initial.out l.out l.left l.place
