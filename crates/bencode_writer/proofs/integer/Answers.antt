-- `bencode_writer::integer` meets its contract, by the sign. Assumes nothing.
use mir.Syntax.{w64}
use mir.ValLaws.{to_z-of_z}
use Rattle.bencode_writer.proofs.Signs.{written_below, written_from}
use Rattle.bencode_writer.proofs.integer.Goals as goal

pub returns-then-z-lt0 : goal.returns-then-z-lt0
returns-then-z-lt0 c =
    let e = to_z-of_z w64 _ c.ranges.z in
    rw (written_below _ (rw e at c.if-z-lt0.true)) (rw (c.unsigned_abs.ensures.value, e) at c.joined.ensures)

pub returns-else-z-lt0 : goal.returns-else-z-lt0
returns-else-z-lt0 c =
    let e = to_z-of_z w64 _ c.ranges.z in
    rw (written_from _ (rw e at c.if-z-lt0.false)) (rw (c.unsigned_abs-else-z-lt0.ensures.value, e) at c.joined-else-z-lt0.ensures)
