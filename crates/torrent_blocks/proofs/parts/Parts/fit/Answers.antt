-- `fit` of the parts meets its contract: there are no more parts than files. Assumes nothing.
use Rattle.std.proofs.Common.{arith, inl, length}
use borrow.Author.Tests.{le-leb}
use Rattle.torrent_blocks.specs.Steps.{parts_left}
use Rattle.torrent_blocks.proofs.Steps.{parts-few, parts-fit}
use Rattle.torrent_blocks.proofs.parts.Parts.fit.Goals as goal

pub count-requires-clause-fits : goal.count-requires-clause-fits
count-requires-clause-fits c = let p = c.args.self in inl (omega (arith, parts-fit p.files p.from.0 p.to.0))

pub returns-then-self-room : goal.returns-then-self-room
returns-then-self-room c =
    let p = c.args.self in
    let few = parts-few p.files p.from.0 p.to.0 in
    rw (le-leb _ _ c.if-self-room.true, le-leb (length (parts_left p)) c.args.room (omega arith))
