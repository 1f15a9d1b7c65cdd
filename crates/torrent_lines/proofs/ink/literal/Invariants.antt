-- `torrent_lines::ink::literal` meets its contract. Assumes nothing.
use Rattle.std.proofs.Common.{drop}
use Rattle.bencode_writer.proofs.Runs.{Going}
use Rattle.torrent_lines.proofs.ink.literal.Given as goal

abbrev pub invariant-loop-b : goal.invariant-loop-b
invariant-loop-b l = Going l.bytes l.at l.initial.out (drop l.b-index l.bytes) l.to l.out
