-- `torrent_lines::torrent` meets its contract. Assumes nothing.
use Rattle.std.proofs.Common.{arith}
use Rattle.bencode_writer.proofs.Runs.{ran_then, ran-as}
use Rattle.torrent_lines.proofs.Reading.{ready}
use Rattle.torrent_lines.proofs.torrent.Goals as goal

pub first_line-at-requires : goal.first_line-at-requires
first_line-at-requires c = omega (arith, (ready c.requires.0 c.requires.1 c.bytes-name.ensures.same).short)

pub only_file-requires : goal.only_file-requires
only_file-requires c =
    let r = ready c.requires.0 c.requires.1 c.bytes-name.ensures.same in
    omega (arith, r.short, r.head, c.first_line-at.ensures.place)

pub returns-then-content : goal.returns-then-content
returns-then-content c =
    let r = ready c.requires.0 c.requires.1 c.bytes-name.ensures.same in
    let x = ran-as (ran_then c.first_line-at.ensures c.only_file.ensures) (r.alone-is c.if-content.true) in
    record { ran = x; most = omega (arith, x.place, r.most) }

pub overflow_add-content : goal.overflow_add-content
overflow_add-content c = omega (arith, ((ready c.requires.0 c.requires.1 c.bytes-name.ensures.same).several-are c.if-content.false).3)

pub many-requires : goal.many-requires
many-requires c =
    let r = ready c.requires.0 c.requires.1 c.bytes-name.ensures.same in
    let x = r.several-are c.if-content.false in
    (x.0, x.1, omega (arith, x.4, r.head, c.first_line-at.ensures.place))

pub returns : goal.returns
returns c =
    let r = ready c.requires.0 c.requires.1 c.bytes-name.ensures.same in
    let y = r.several-are c.if-content.false in
    let x = ran-as (ran_then c.first_line-at.ensures (c.many.ensures y.0 y.1)) y.2 in
    record { ran = x; most = omega (arith, x.place, r.most) }
