-- `tracker::compact::nth` meets its contract. Assumes nothing.
use Rattle.std.proofs.Common.{◌≡◌, ◌+◌, ◌*◌, ap, ◌∙◌, arith}
use Rattle.refusal.proofs.Cases.{less-or}
use Rattle.tracker.specs.Entries.{packed_at}
use Rattle.tracker.proofs.Steps.{packed-past}
use Rattle.tracker.proofs.compact.nth.Goals as goal

pub returns : goal.returns
returns c =
    c.packed_at.ensures
    ∙ less-or (c.args.first + c.args.n * 6) 18446744073709551615
    (λ h. let e : c.saturating_add.result ≡ c.args.first + c.args.n * 6 = omega arith in ap (packed_at c.args.text.now) e)
    (λ h. packed-past c.args.text.now c.saturating_add.result (c.args.first + c.args.n * 6) (omega arith) (omega arith))
