-- `bencode_writer::store_small_hex` meets its contract. Assumes nothing.
use Rattle.std.proofs.Common.{drop}
use Rattle.bencode_writer.specs.Escaped.{small_hex}
use Rattle.bencode_writer.proofs.Runs.{Going}
use Rattle.bencode_writer.proofs.store_small_hex.Given as goal

abbrev pub invariant-loop-b : goal.invariant-loop-b
invariant-loop-b l = Going (small_hex l.bytes) l.at l.initial.out (small_hex (drop l.b-index l.bytes)) l.to l.out
