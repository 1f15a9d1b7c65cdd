-- `week::writing::hash_all` meets its contract. Assumes nothing.
use Rattle.std.specs.Prelude.{◌≡◌, Err}
use Rattle.std.proofs.Common.{sym, subst, arith, rules}
use Rattle.week.specs.Noted.{Hashes}
use Rattle.week.proofs.Packing.{packed_start, packed-near, packed-next, packed-refused, packed-end}
use Rattle.week.proofs.writing.hash_all.Goals as goal

pub loop-i-init : goal.loop-i-init
loop-i-init c = packed_start c.args.lengths.now c.args.bodies.now c.args.hashes.now

pub overflow_add-past : goal.overflow_add-past
overflow_add-past c = omega (arith, packed-near c.args.lengths.now c.args.bodies.now c.args.hashes.now c.loop-i.invariant (omega arith) c.requires.1)

pub slice_bounds-hash_one-end : goal.slice_bounds-hash_one-end
slice_bounds-hash_one-end c = omega (arith, packed-near c.args.lengths.now c.args.bodies.now c.args.hashes.now c.loop-i.invariant (omega arith) c.requires.1)

pub loop-i-preserved : goal.loop-i-preserved
loop-i-preserved c = packed-next c.args.lengths.now c.args.bodies.now c.args.hashes.now c.loop-i.invariant (omega arith) c.hash_one.result c.hash_one.new.hashes c.hash_one.ensures c.in_ok-hash_one.was (omega arith)

pub returns-in_err-hash_one : goal.returns-in_err-hash_one
returns-in_err-hash_one c =
    let e : c.from_residual.result ≡ Err c.in_err-hash_one.field-0.0 = search rules in
    subst (λ x. Hashes c.args.bodies.now c.args.lengths.now x c.hash_one.new.hashes) (sym e) (packed-refused c.args.lengths.now c.args.bodies.now c.args.hashes.now c.loop-i.invariant (omega arith) c.hash_one.result c.hash_one.new.hashes c.hash_one.ensures c.in_err-hash_one.was)

pub shape_of-hashes : goal.shape_of-hashes
shape_of-hashes c = c.loop-i.invariant.size

pub returns : goal.returns
returns c = packed-end c.args.lengths.now c.args.bodies.now c.args.hashes.now c.loop-i.invariant (omega arith)
