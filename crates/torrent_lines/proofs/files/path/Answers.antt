-- `torrent_lines::files::path` meets its contract. Assumes nothing.
use Rattle.std.proofs.Common.{arith, ap, List, ℕ, length}
use Rattle.torrent_lines.specs.Lines.{escaped}
use Rattle.torrent_lines.proofs.Walking.{path-done, path-again, path_room, path-further}
use Rattle.torrent_lines.proofs.files.path.Goals as goal

pub byte-to-requires : goal.byte-to-requires
byte-to-requires c = omega (arith, path_room c.loop-part.invariant c.in-Ok.ensures c.requires.0 c.requires.1, c.requires.2)

pub escaped-to-requires : goal.escaped-to-requires
escaped-to-requires c = omega (
  arith,
  path_room c.loop-part.invariant c.in-Ok.ensures c.requires.0 c.requires.1,
  c.requires.2,
  c.byte-to.ensures.place,
  ap (λ (l : List ℕ). length (escaped l)) c.bytes.ensures.same,
)

pub overflow_add-p : goal.overflow_add-p
overflow_add-p c = omega (arith, (path-further c.loop-part.invariant c.in-Ok.ensures c.requires.0 c.requires.1).1)

pub loop-part-smaller : goal.loop-part-smaller
loop-part-smaller c =
    let f = path-further c.loop-part.invariant c.in-Ok.ensures c.requires.0 c.requires.1 in
    omega (arith, f.0, f.1)

pub loop-part-preserved : goal.loop-part-preserved
loop-part-preserved c = path-again c.loop-part.invariant c.in-Ok.ensures c.bytes.ensures.same c.byte-to.ensures c.escaped-to.ensures

pub returns : goal.returns
returns c = path-done c.loop-part.invariant c.in_default.ensures
