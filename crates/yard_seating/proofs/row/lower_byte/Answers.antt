-- `lower_byte` meets its contract. Assumes nothing.
use Rattle.std.proofs.Common.{◌≡◌, sym, ap, ◌∙◌, ℕ, arith, rules}
use Rattle.yard_seating.proofs.Passes.{has-none, lowered-skip, lowered-turn}
use Rattle.yard_seating.specs.Steps.{lowered}
use Rattle.yard_seating.proofs.row.lower_byte.Goals as goal

pub returns-then-byte-eq0 : goal.returns-then-byte-eq0
returns-then-byte-eq0 c =
    let a = c.args in
    λ d h. h ∙ sym (lowered-skip a.rows.now a.at a.p a.end d c.requires.2 (λ q l m. has-none a.rows.now a.at a.p q (omega arith) c.if-byte-eq0.true))

pub loop-q-preserved : goal.loop-q-preserved
loop-q-preserved c =
    let a = c.args in
    (search rules, (λ d h. lowered-turn a.rows.now a.at a.p c.loop-q.q _ d _ _ (omega arith) (c.loop-q.invariant.1 d h) c.bit_of.ensures c.lower_to.ensures))

pub returns : goal.returns
returns c =
    let e : c.loop-q.q ≡ c.args.end = omega arith in
    λ d h. c.loop-q.invariant.1 d h ∙ ap (λ (x : ℕ). lowered c.args.rows.now c.args.at x d) e
