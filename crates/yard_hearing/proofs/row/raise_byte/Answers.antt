-- `raise_byte` meets its contract. Assumes nothing.
use Rattle.std.proofs.Common.{◌≡◌, sym, ap, ◌∙◌, ℕ, ◌/◌, arith, rules}
use Rattle.yard_hearing.proofs.Passing.{nothing-new, raised-skip, raised-turn}
use Rattle.yard_hearing.specs.Passes.{raised}
use Rattle.yard_hearing.proofs.row.raise_byte.Goals as goal

pub returns-then-new-eq0 : goal.returns-then-new-eq0
returns-then-new-eq0 c =
    let a = c.args in
    λ l h. h ∙ sym (raised-skip a.rows.now a.at a.said.now a.p a.end l c.requires.3 (λ q x y. nothing-new a.rows.now a.at a.said.now q (a.p / 8) _ (omega arith) c.new_bits-new.ensures c.if-new-eq0.true))

pub loop-q-preserved : goal.loop-q-preserved
loop-q-preserved c =
    let a = c.args in
    (search rules, (λ l h. raised-turn a.rows.now a.at a.said.now (a.p / 8) c.loop-q.q _ _ l _ _ (omega arith) c.new_bits-new.ensures (c.loop-q.invariant.1 l h) c.bit_of.ensures c.raise.ensures))

pub returns : goal.returns
returns c =
    let e : c.loop-q.q ≡ c.args.end = omega arith in
    λ l h. c.loop-q.invariant.1 l h ∙ ap (λ (x : ℕ). raised c.args.rows.now c.args.at c.args.said.now x l) e
