-- `links::store` meets its contract. Assumes nothing.
use Rattle.std.specs.Prelude.{Err}
use mathlib.Core.Path.{refl, ap, ◌∙◌}
use native.Mathlib.Omega.{arith}
use lib.ListN.{length}
use Rattle.links.proofs.Answers.{stored-length, no_name-room, no-address-room, stored}
use Rattle.links.proofs.store.Goals as goal

pub returns-then-name-size_of : goal.returns-then-name-size_of
returns-then-name-size_of c = λ m a i j. no_name-room c.args.text.now m c.args.dn c.args.tr i j c.args.hash.now c.args.name.now c.args.address.now (omega (arith, c.if-name-size_of.true, c.size_of.ensures)) (ap Err c.refuse.ensures)

pub returns-then-address-size_of : goal.returns-then-address-size_of
returns-then-address-size_of c = λ m a i j. no-address-room c.args.text.now m c.args.dn c.args.tr i j c.args.hash.now c.args.name.now c.args.address.now (omega (arith, c.if-name-size_of.false, c.size_of.ensures)) (omega (arith, c.if-address-size_of.true, c.size_of-2.ensures)) (ap Err c.refuse-then-address-size_of.ensures)

pub hash-requires : goal.hash-requires
hash-requires c = (c.requires.0.hash, c.requires.1)

pub put-requires : goal.put-requires
put-requires c = (c.requires.0.name, c.requires.2, (omega (arith, c.if-name-size_of.false, c.size_of.ensures)))

pub put-requires-2 : goal.put-requires-2
put-requires-2 c = (c.requires.0.address, c.requires.3, (omega (arith, c.if-address-size_of.false, c.size_of-2.ensures)))

pub shape_of-name : goal.shape_of-name
shape_of-name c = ap length (c.put.ensures c.requires.0.name c.requires.2) ∙ stored-length c.requires.0.name c.args.name.now

pub shape_of-address : goal.shape_of-address
shape_of-address c = ap length (c.put-2.ensures c.requires.0.address c.requires.3) ∙ stored-length c.requires.0.address c.args.address.now

pub returns : goal.returns
returns c = λ m a i j. stored c.args.text.now m c.args.dn c.args.tr i j c.args.hash.now c.args.name.now c.args.address.now (omega (arith, c.if-name-size_of.false, c.size_of.ensures)) (omega (arith, c.if-address-size_of.false, c.size_of-2.ensures)) refl c.told.ensures c.told-2.ensures (c.hash.ensures m.hash a) (c.put.ensures m.name i) (c.put-2.ensures m.address j)
