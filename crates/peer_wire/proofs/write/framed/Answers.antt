-- `peer_wire::write::framed` meets its contract. The length, the id, the numbers and the rest are one run of bytes. Assumes nothing.
use Rattle.std.specs.Prelude.{Err}
use lib.ListN.{length}
use Prim.Native.Nat.{◌+◌}
use mathlib.Core.Path.{sym, ◌∙◌, refl}
use borrow.Author.Tests.{not-true, not-false}
use native.Mathlib.Omega.{arith}
use Rattle.peer_wire.proofs.Writing.{write-long, write-wrong, write-short, write_done, write_kept}
use mathlib.Core.Path.{ap}
use mathlib.Core.Bool.{not}
use Rattle.peer_wire.proofs.write.framed.Goals as goal

pub returns-then-head-rest : goal.returns-then-head-rest
returns-then-head-rest c = write-long c.args.id c.args.numbers.now c.args.rest.now c.args.out.now (omega arith) (ap Err c.refuse.ensures)

pub returns-then-not-is_allowed : goal.returns-then-not-is_allowed
returns-then-not-is_allowed c = write-wrong c.args.id c.args.numbers.now c.args.rest.now c.args.out.now (1 + length c.args.numbers.now + length c.args.rest.now) refl (omega arith) (sym c.is_allowed.ensures ∙ not-true _ (ap not c.if-not-is_allowed.true)) (ap Err c.refuse-then-not-is_allowed.ensures)

pub returns-then-out-n : goal.returns-then-out-n
returns-then-out-n c = write-short c.args.id c.args.numbers.now c.args.rest.now c.args.out.now (1 + length c.args.numbers.now + length c.args.rest.now) refl (omega arith) (sym c.is_allowed.ensures ∙ not-false _ (ap not c.if-not-is_allowed.false)) (omega arith) (ap Err c.refuse-then-out-n.ensures)

pub shape_of-out : goal.shape_of-out
shape_of-out c = write_kept c.args.id c.args.numbers.now c.args.rest.now c.args.out.now (1 + length c.args.numbers.now + length c.args.rest.now) refl (omega arith) (sym c.is_allowed.ensures ∙ not-false _ (ap not c.if-not-is_allowed.false)) (omega arith) (4 + (1 + length c.args.numbers.now)) (omega arith) c.write.ensures.out_after c.literal.ensures c.literal-2.ensures

pub returns : goal.returns
returns c = write_done c.args.id c.args.numbers.now c.args.rest.now c.args.out.now (1 + length c.args.numbers.now + length c.args.rest.now) refl (omega arith) (sym c.is_allowed.ensures ∙ not-false _ (ap not c.if-not-is_allowed.false)) (omega arith) (4 + (1 + length c.args.numbers.now)) (omega arith) c.write.ensures.out_after c.literal.ensures c.literal-2.ensures
