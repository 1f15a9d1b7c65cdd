-- `links::values::hash` meets its contract. Assumes nothing.
use mathlib.Core.Path.{refl}
use Rattle.links.proofs.Decoding.{hashing-start, hashing-digits, hashing-more, hashing-end}
use native.Mathlib.Omega.{arith}
use Rattle.links.proofs.values.hash.Goals as goal

pub loop-i-init : goal.loop-i-init
loop-i-init c = hashing-start c.args.text.now c.args.from _ refl

pub overflow_add-from : goal.overflow_add-from
overflow_add-from c = omega (arith, hashing-digits c.args.text.now c.args.from c.requires.0 c.requires.1 c.loop-i.i (omega arith))

pub pair-requires : goal.pair-requires
pair-requires c = hashing-digits c.args.text.now c.args.from c.requires.0 c.requires.1 c.loop-i.i (omega arith)

pub loop-i-preserved : goal.loop-i-preserved
loop-i-preserved c = hashing-more _ _ _ c.loop-i.invariant _ (omega arith) c.pair.ensures

pub returns : goal.returns
returns c = λ bs x. hashing-end _ _ _ c.loop-i.invariant (omega arith) bs x
