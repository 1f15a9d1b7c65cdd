-- `spare_set` meets its contract. Assumes nothing.
use Rattle.std.proofs.Common.{◌≡◌, sym, ap, ◌∙◌, ◌*◌, length, arith}
use Rattle.yard_hearing.proofs.Passing.{spare-start, spare-turn, spare-is, spare-found}
use Rattle.yard_hearing.specs.Passes.{spare_below}
use Rattle.yard_hearing.proofs.row.spare_set.Goals as goal

pub loop-p-init : goal.loop-p-init
loop-p-init c = sym (spare-start c.args.pieces c.args.said.now _ (omega arith))

pub loop-p-preserved : goal.loop-p-preserved
loop-p-preserved c = spare-turn c.args.pieces c.args.said.now c.loop-p.p (omega arith) c.loop-p.invariant (sym c.bit_of.ensures ∙ c.if-bit_of.false)

pub returns-then-bit_of : goal.returns-then-bit_of
returns-then-bit_of c = spare-found c.args.pieces c.args.said.now c.loop-p.p (omega arith) (omega arith) (sym c.bit_of.ensures ∙ c.if-bit_of.true)

pub returns : goal.returns
returns c =
    let e : c.loop-p.p ≡ 8 * length c.args.said.now = omega arith in
    sym c.loop-p.invariant ∙ ap (spare_below c.args.pieces c.args.said.now) e ∙ spare-is c.args.pieces c.args.said.now
