-- `peer_wire::sized` meets its contract. Assumes nothing.
use Prim.Native.Nat.{◌+◌}
use Rattle.refusal.specs.Paper.{refusal, taken}
use Rattle.refusal.specs.declared.Part.{Part}
use Rattle.peer_wire.specs.Message.{Message}
use Rattle.peer_wire.specs.Frames.{found}
use mathlib.Core.Path.{sym, ap, ◌∙◌, refl}
use borrow.Author.Tests.{not-true, not-false}
use native.Mathlib.Omega.{arith}
use Rattle.peer_wire.proofs.Steps.{sized-long, sized-zero, sized-wait, sized-wrong, sized-whole}
use mathlib.Core.Bool.{not}
use Rattle.peer_wire.proofs.sized.Goals as goal

pub returns-then-n-gt-FRAME : goal.returns-then-n-gt-FRAME
returns-then-n-gt-FRAME c = ap refusal c.refuse.ensures ∙ sym (sized-long c.args.bytes.now c.args.n (omega arith))

pub returns-then-n-eq0 : goal.returns-then-n-eq0
returns-then-n-eq0 c = sym (sized-zero c.args.bytes.now c.args.n (omega arith))

pub returns-then-bytes-end : goal.returns-then-bytes-end
returns-then-bytes-end c = sym (sized-wait c.args.bytes.now c.args.n (omega arith) (omega arith) (omega arith))

pub returns-then-not-is_allowed : goal.returns-then-not-is_allowed
returns-then-not-is_allowed c = ap refusal c.refuse-then-not-is_allowed.ensures ∙ sym (sized-wrong c.args.bytes.now c.args.n (omega arith) (omega arith) (omega arith) (sym c.is_allowed.ensures ∙ not-true _ (ap not c.if-not-is_allowed.true)))

pub whole-requires : goal.whole-requires
whole-requires c = (omega arith, refl, sym c.is_allowed.ensures ∙ not-false _ (ap not c.if-not-is_allowed.false))

pub returns : goal.returns
returns c = ap (λ (m : Message Part). taken (found m (4 + c.args.n))) c.whole.ensures ∙ sym (sized-whole c.args.bytes.now c.args.n (omega arith) (omega arith) (omega arith) (sym c.is_allowed.ensures ∙ not-false _ (ap not c.if-not-is_allowed.false)))
