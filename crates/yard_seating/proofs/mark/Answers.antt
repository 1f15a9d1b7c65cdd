-- `yard_seating::mark` meets its contract. Assumes nothing.
use Rattle.peer_wire.specs.Message.{framed}
use mathlib.Core.List.{[], ◌∷◌}
use Rattle.yard_seating.proofs.Ways.{mark-room, mark-done, refused-writes, plain-writes, mark-writes}
use lib.ListN.{length}
use Rattle.yard_seating.proofs.mark.Goals as goal

pub returns-then-out-lt5 : goal.returns-then-out-lt5
returns-then-out-lt5 c = record { step = mark-room c.args.h c.args.s c.args.t (length c.args.out.now) _ c.if-out-lt5.true c.refused.ensures; frame = refused-writes c.args.h c.args.s _ _ c.args.out.now _ c.refused.ensures }

pub returns : goal.returns
returns c = record { step = mark-done c.args.h c.args.s c.args.t (length c.args.out.now) _ c.if-out-lt5.false c.marked.ensures; frame = mark-writes c.args.h c.args.t _ c.args.out.now _ (framed (c.args.id ∷ [])) c.marked.ensures (plain-writes c.args.id c.args.out.now _ _ c.requires c.if-out-lt5.false c.plain.ensures) }
