-- `links::writing::put` meets its contract. Assumes nothing.
use Rattle.links.proofs.Putting.{name-room, address_room, text-put}
use Rattle.links.proofs.writing.put.Goals as goal

pub value-c-requires : goal.value-c-requires
value-c-requires c =
    let s = c.args in
    name-room s.hash.now s.name.now s.announce.now s.out.now c.requires c.literal.ensures c.end-a.ensures c.small_hex.ensures c.end-b.ensures

pub value-requires : goal.value-requires
value-requires c =
    let s = c.args in
    address_room s.hash.now s.name.now s.announce.now s.out.now c.requires c.literal.ensures c.end-a.ensures c.small_hex.ensures c.end-b.ensures
    c.value-c.ensures

pub returns : goal.returns
returns c =
    let s = c.args in
    text-put s.hash.now s.name.now s.announce.now s.out.now c.requires c.literal.ensures c.end-a.ensures c.small_hex.ensures c.end-b.ensures
    c.value-c.ensures c.value.ensures
