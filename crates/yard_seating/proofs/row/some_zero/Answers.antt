-- `some_zero` meets its contract. Assumes nothing.
use Rattle.std.proofs.Common.{◌≡◌, ap, ◌∙◌, ◌+◌, ◌*◌, min, arith}
use Rattle.yard_seating.specs.Steps.{some_zero}
use Rattle.yard_seating.proofs.row.some_zero.Goals as goal

pub loop-k-init : goal.loop-k-init
loop-k-init c =
    let e : 0 ≡ min (8 * 0) c.args.pieces = omega arith in
    ap (some_zero c.args.rows.now c.args.at c.args.holders.now) e

pub byte_zero-found-requires : goal.byte_zero-found-requires
byte_zero-found-requires c =
    let a = c.args in
    let e : min (8 * c.loop-k.k) a.pieces ≡ 8 * c.loop-k.k = omega arith in
    (omega arith, omega (arith, c.requires.1), omega arith, omega arith, omega arith, omega arith, c.loop-k.invariant ∙ ap (some_zero a.rows.now a.at a.holders.now) e)

pub loop-k-preserved : goal.loop-k-preserved
loop-k-preserved c =
    let e : c.end_of-end.result ≡ min (8 * (c.loop-k.k + 1)) c.args.pieces = omega arith in
    c.byte_zero-found.ensures ∙ ap (some_zero c.args.rows.now c.args.at c.args.holders.now) e

pub returns : goal.returns
returns c =
    let e : min (8 * c.loop-k.k) c.args.pieces ≡ c.args.pieces = omega arith in
    c.loop-k.invariant ∙ ap (some_zero c.args.rows.now c.args.at c.args.holders.now) e
