-- `peer_wire::write::shake` meets its contract. Assumes nothing.
use Rattle.std.specs.Prelude.{Err}
use mathlib.Core.Path.{ap}
use Rattle.peer_wire.proofs.Writing.{shake-short, shake-done}
use Rattle.peer_wire.proofs.write.shake.Goals as goal

pub returns-then-out-lt68 : goal.returns-then-out-lt68
returns-then-out-lt68 c = shake-short c.args.info.now c.args.peer.now c.args.out.now c.requires.0 c.requires.1 c.if-out-lt68.true (ap Err c.refuse.ensures)

pub returns : goal.returns
returns c = shake-done c.args.info.now c.args.peer.now c.args.out.now c.requires.0 c.requires.1 c.if-out-lt68.false c.literal.ensures c.literal-2.ensures c.literal-3.ensures
