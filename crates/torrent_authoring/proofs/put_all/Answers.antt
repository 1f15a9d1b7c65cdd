-- `torrent_authoring::put_all` meets its contract. Assumes nothing.
use Rattle.std.proofs.Common.{arith}
use Rattle.torrent_authoring.proofs.Putting.{room-announce, room-length, room-name, room-piece, room-pieces, all-put}
use Rattle.torrent_authoring.specs.Writing.{fields}
use Rattle.torrent_authoring.proofs.put_all.Goals as goal

pub put_string-a-requires : goal.put_string-a-requires
put_string-a-requires c = let a = c.args in let f = fields a.announce.now a.name.now a.piece_length a.pieces.now a.length in
    omega (arith, room-announce f a.out.now c.requires)

pub put_number-b-requires : goal.put_number-b-requires
put_number-b-requires c = let a = c.args in let f = fields a.announce.now a.name.now a.piece_length a.pieces.now a.length in
    omega (arith, room-length f a.out.now c.requires c.put_string-a.ensures)

pub put_string-c-requires : goal.put_string-c-requires
put_string-c-requires c = let a = c.args in let f = fields a.announce.now a.name.now a.piece_length a.pieces.now a.length in
    omega (arith, room-name f a.out.now c.requires c.put_string-a.ensures c.put_number-b.ensures)

pub put_number-d-requires : goal.put_number-d-requires
put_number-d-requires c = let a = c.args in let f = fields a.announce.now a.name.now a.piece_length a.pieces.now a.length in
    omega (arith, room-piece f a.out.now c.requires c.put_string-a.ensures c.put_number-b.ensures c.put_string-c.ensures)

pub put_string-e-requires : goal.put_string-e-requires
put_string-e-requires c = let a = c.args in let f = fields a.announce.now a.name.now a.piece_length a.pieces.now a.length in
    omega (arith, room-pieces f a.out.now c.requires c.put_string-a.ensures c.put_number-b.ensures c.put_string-c.ensures c.put_number-d.ensures)

pub returns : goal.returns
returns c = let a = c.args in let f = fields a.announce.now a.name.now a.piece_length a.pieces.now a.length in all-put f a.out.now c.requires c.put_string-a.ensures c.put_number-b.ensures c.put_string-c.ensures c.put_number-d.ensures c.put_string-e.ensures c.literal.ensures c.end.ensures
