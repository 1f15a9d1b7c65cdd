-- `torrent_lines::ink::escaped` meets its contract. Assumes nothing.
use Rattle.std.proofs.Common.{drop}
use Rattle.bencode_writer.proofs.Runs.{Going}
use Rattle.torrent_lines.specs.Lines.{escaped}
use Rattle.torrent_lines.proofs.ink.escaped.Given as goal

abbrev pub invariant-loop-b : goal.invariant-loop-b
invariant-loop-b l = Going (escaped l.bytes) l.at l.initial.out (escaped (drop l.b-index l.bytes)) l.to l.out
