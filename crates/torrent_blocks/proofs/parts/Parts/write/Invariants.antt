-- `write` of the parts meets its contract. The invariant: the parts left, written from here on, give what is to be given. Assumes nothing.
use Rattle.std.proofs.Common.{◌≡◌, ◌+◌, ◌*◌, ◌≤◌, length}
use Rattle.std.proofs.lemmas.List.Edits.{sets}
use Rattle.torrent_blocks.specs.Answers.{flat}
use Rattle.torrent_blocks.specs.Steps.{parts_left}
use Rattle.torrent_blocks.proofs.parts.Parts.write.Given as goal

abbrev pub invariant-loop-part : goal.invariant-loop-part
invariant-loop-part l =
    record {
      count : l.n + length (parts_left l.part-iterator) ≡ length (parts_left l.fn.self);
      room : 3 * l.n + 3 * length (parts_left l.part-iterator) ≤ length l.out;
      same : sets l.out (3 * l.n) (flat (parts_left l.part-iterator)) ≡ sets l.fn.out 0 (flat (parts_left l.fn.self));
    }
