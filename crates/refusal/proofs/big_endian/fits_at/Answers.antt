-- `fits_at` meets its contract: what is within the count by subtraction is within it by the sum. Assumes nothing.
use Rattle.refusal.proofs.Places.{by-sum, too_wide}
use Rattle.refusal.proofs.big_endian.fits_at.Goals as goal

pub returns-then-width-count : goal.returns-then-width-count
returns-then-width-count c =
    let a = c.args in
    by-sum a.at a.width a.count c.if-width-count.true

pub returns-else-width-count : goal.returns-else-width-count
returns-else-width-count c =
    let a = c.args in
    too_wide a.at a.width a.count c.if-width-count.false
