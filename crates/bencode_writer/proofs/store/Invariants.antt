-- `bencode_writer::store` meets its contract. The loop's invariant: storing what is left leaves what storing all leaves. Assumes nothing.
use Rattle.bencode_writer.proofs.Stores.{Storing}
use Rattle.bencode_writer.proofs.store.Given as goal

abbrev pub invariant-loop-i : goal.invariant-loop-i
invariant-loop-i l = Storing l.bytes l.at l.initial.out l.out l.i
