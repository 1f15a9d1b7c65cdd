-- `byte_zero` meets its contract. Assumes nothing.
use Rattle.std.proofs.Common.{◌≡◌, sym, ap, ◌∙◌, Bool, ◌&&◌, ◌||◌, eqb, get_or, arith}
use Rattle.yard_seating.proofs.Passes.{zero_turn, zero-skip}
use Rattle.yard_seating.specs.Steps.{some_zero}
use Rattle.yard_seating.proofs.row.byte_zero.Goals as goal

pub returns-then-byte-eq0 : goal.returns-then-byte-eq0
returns-then-byte-eq0 c =
    let a = c.args in
    c.requires.6 ∙ sym (zero-skip a.rows.now a.at a.holders.now a.p a.end c.requires.2 c.requires.3 c.requires.4 c.if-byte-eq0.true)

pub loop-q-preserved : goal.loop-q-preserved
loop-q-preserved c =
    let a = c.args in
    let l = c.loop-q in
    zero_turn a.rows.now a.at a.holders.now a.p l.q _ _ (omega arith) l.invariant (ap (λ (b : Bool). l.any || (b && eqb (get_or a.holders.now l.q 0) 0)) c.bit_of.ensures)

pub returns : goal.returns
returns c =
    let e : c.loop-q.q ≡ c.args.end = omega arith in
    c.loop-q.invariant ∙ ap (some_zero c.args.rows.now c.args.at c.args.holders.now) e
