-- `lower` meets its contract. Assumes nothing.
use Rattle.std.proofs.Common.{◌≡◌, refl, ap, ◌∙◌, ℕ, ◌+◌, ◌*◌, min, length, arith}
use Rattle.yard_seating.proofs.Passes.{lowered-start, lowered-len}
use Rattle.yard_seating.specs.Steps.{lowered}
use Rattle.yard_seating.proofs.row.lower.Goals as goal

pub loop-k-init : goal.loop-k-init
loop-k-init c =
    let a = c.args in
    let e : 0 ≡ min (8 * 0) a.pieces = omega arith in
    (refl, lowered-start a.rows.now a.at a.holders.now ∙ ap (λ (x : ℕ). lowered a.rows.now a.at x a.holders.now) e)

pub lower_byte-requires : goal.lower_byte-requires
lower_byte-requires c = (omega arith, omega (arith, c.requires.1, c.loop-k.invariant.0), omega arith, omega arith, omega arith, omega arith)

pub loop-k-preserved : goal.loop-k-preserved
loop-k-preserved c =
    let a = c.args in
    let d : min (8 * c.loop-k.k) a.pieces ≡ 8 * c.loop-k.k = omega arith in
    let e : c.end_of-end.result ≡ min (8 * (c.loop-k.k + 1)) a.pieces = omega arith in
    let h = c.lower_byte.ensures a.holders.now (c.loop-k.invariant.1 ∙ ap (λ (x : ℕ). lowered a.rows.now a.at x a.holders.now) d) in
    (ap length h ∙ lowered-len a.rows.now a.at _ a.holders.now, h ∙ ap (λ (x : ℕ). lowered a.rows.now a.at x a.holders.now) e)

pub returns : goal.returns
returns c =
    let a = c.args in
    let e : min (8 * c.loop-k.k) a.pieces ≡ a.pieces = omega arith in
    c.loop-k.invariant.1 ∙ ap (λ (x : ℕ). lowered a.rows.now a.at x a.holders.now) e
