-- `torrent_lines::files::many` meets its contract. Assumes nothing.
use Rattle.std.proofs.Common.{arith}
use Rattle.torrent_metainfo.proofs.Filing.{file-further}
use Rattle.torrent_lines.proofs.Walking.{files-done, files-again, files-room, files-small}
use Rattle.torrent_lines.proofs.files.many.Goals as goal

pub line-to-requires : goal.line-to-requires
line-to-requires c = files-room c.loop-f.invariant c.in-Ok.ensures c.requires.0 c.requires.1 c.requires.2

pub overflow_add-offset : goal.overflow_add-offset
overflow_add-offset c = omega (arith, files-small c.loop-f.invariant c.in-Ok.ensures c.requires.0 c.requires.1)

pub loop-f-smaller : goal.loop-f-smaller
loop-f-smaller c =
    let f = file-further _ _ _ c.in-Ok.ensures in
    omega (arith, f.0, f.1)

pub loop-f-preserved : goal.loop-f-preserved
loop-f-preserved c = files-again c.loop-f.invariant c.in-Ok.ensures c.line-to.ensures

pub returns : goal.returns
returns c = files-done c.loop-f.invariant c.in_default.ensures
