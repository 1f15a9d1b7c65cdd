-- `links::values::decode` meets its contract. Assumes nothing.
use Rattle.links.proofs.Decoding.{decoding-start, decoding-here, decoding-digits, decoding-escape, decoding-plain, decoding-end, decoding-length}
use native.Mathlib.Omega.{arith}
use Rattle.links.proofs.values.decode.Goals as goal

pub loop-i-init : goal.loop-i-init
loop-i-init c = decoding-start c.args.text.now c.args.from c.args.size c.args.out.now c.requires

pub bounds-text-at : goal.bounds-text-at
bounds-text-at c = (decoding-here c.args.text.now c.args.from c.args.size c.args.out.now c.requires c.loop-i.invariant (omega arith)).0

pub overflow_add-at : goal.overflow_add-at
overflow_add-at c = omega (arith, decoding-here c.args.text.now c.args.from c.args.size c.args.out.now c.requires c.loop-i.invariant (omega arith))

pub pair-requires : goal.pair-requires
pair-requires c = decoding-digits c.args.text.now c.args.from c.args.size c.args.out.now c.requires c.loop-i.invariant (omega arith) c.if-text-at-eq37.true

pub bounds-out-i : goal.bounds-out-i
bounds-out-i c = (decoding-here c.args.text.now c.args.from c.args.size c.args.out.now c.requires c.loop-i.invariant (omega arith)).1

pub loop-i-preserved-then-text-at-eq37 : goal.loop-i-preserved-then-text-at-eq37
loop-i-preserved-then-text-at-eq37 c = decoding-escape c.args.text.now c.args.from c.args.size c.args.out.now c.requires c.loop-i.invariant (omega arith) c.if-text-at-eq37.true _ c.pair.ensures

pub bounds-text-at-in-loop-i : goal.bounds-text-at-in-loop-i
bounds-text-at-in-loop-i c = (decoding-here c.args.text.now c.args.from c.args.size c.args.out.now c.requires c.loop-i.invariant (omega arith)).0

pub bounds-out-i-in-loop-i : goal.bounds-out-i-in-loop-i
bounds-out-i-in-loop-i c = (decoding-here c.args.text.now c.args.from c.args.size c.args.out.now c.requires c.loop-i.invariant (omega arith)).1

pub overflow_add-at-in-loop-i : goal.overflow_add-at-in-loop-i
overflow_add-at-in-loop-i c = omega (arith, decoding-here c.args.text.now c.args.from c.args.size c.args.out.now c.requires c.loop-i.invariant (omega arith))

pub loop-i-preserved : goal.loop-i-preserved
loop-i-preserved c = decoding-plain c.args.text.now c.args.from c.args.size c.args.out.now c.requires c.loop-i.invariant (omega arith) c.if-text-at-eq37.false

pub shape_of-out : goal.shape_of-out
shape_of-out c = decoding-length c.args.text.now c.args.from c.args.size c.args.out.now c.requires c.loop-i.invariant (omega arith)

pub returns : goal.returns
returns c = λ bs x e. decoding-end c.args.text.now c.args.from c.args.size c.args.out.now c.requires c.loop-i.invariant (omega arith) bs x e
