-- `check_row` meets its contract. Assumes nothing.
use Rattle.std.proofs.Common.{◌≡◌, ap, ◌∙◌, ◌+◌, ◌*◌, min, arith}
use Rattle.yard_hearing.proofs.Passing.{checked-start}
use Rattle.yard_hearing.specs.Passes.{checked}
use Rattle.yard_hearing.proofs.row.check_row.Goals as goal

pub loop-k-init : goal.loop-k-init
loop-k-init c =
    let a = c.args in
    let e : 0 ≡ min (8 * 0) a.pieces = omega arith in
    checked-start a.rows.now a.at a.said.now a.holders.now a.top ∙ ap (checked a.rows.now a.at a.said.now a.holders.now a.top) e

pub check_byte-news-requires : goal.check_byte-news-requires
check_byte-news-requires c =
    let a = c.args in
    let e : min (8 * c.loop-k.k) a.pieces ≡ 8 * c.loop-k.k = omega arith in
    (omega arith, omega arith, omega (arith, c.requires.2), omega arith, omega arith, omega arith, omega arith, c.loop-k.invariant ∙ ap (checked a.rows.now a.at a.said.now a.holders.now a.top) e)

pub loop-k-preserved : goal.loop-k-preserved
loop-k-preserved c =
    let a = c.args in
    let e : c.end_of-end.result ≡ min (8 * (c.loop-k.k + 1)) a.pieces = omega arith in
    c.check_byte-news.ensures ∙ ap (checked a.rows.now a.at a.said.now a.holders.now a.top) e

pub returns : goal.returns
returns c =
    let a = c.args in
    let e : min (8 * c.loop-k.k) a.pieces ≡ a.pieces = omega arith in
    c.loop-k.invariant ∙ ap (checked a.rows.now a.at a.said.now a.holders.now a.top) e
