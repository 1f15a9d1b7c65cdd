-- `merge_row` meets its contract. Assumes nothing.
use Rattle.std.proofs.Common.{◌≡◌, refl, ap, ◌∙◌, ℕ, arith, rules}
use Rattle.yard_hearing.proofs.Passing.{merged-start, merged-next}
use Rattle.yard_hearing.specs.Passes.{merged}
use Rattle.yard_hearing.proofs.row.merge_row.Goals as goal

pub loop-k-init : goal.loop-k-init
loop-k-init c = (refl, merged-start c.args.at c.args.said.now c.args.rows.now)

pub loop-k-preserved : goal.loop-k-preserved
loop-k-preserved c = (search rules, rw merged-next (cc))

pub returns : goal.returns
returns c =
    let e : c.loop-k.k ≡ c.args.n = omega arith in
    c.loop-k.invariant.1 ∙ ap (λ (x : ℕ). merged c.args.at c.args.said.now x c.args.rows.now) e
