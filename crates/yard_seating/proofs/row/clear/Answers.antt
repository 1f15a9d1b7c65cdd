-- `clear` meets its contract: the row's bytes are filled. Assumes nothing.
use Rattle.std.proofs.Common.{◌∙◌, ap, ℕ, ◌+◌, replicate, arith}
use borrow.Rule.Slice.PartMut.{mid_len}
use lib.ListN.{length-replicate}
use Rattle.refusal.proofs.Places.{copied}
use Rattle.yard_seating.proofs.row.clear.Goals as goal

pub returns : goal.returns
returns c =
    let a = c.args in
    copied a.n a.at a.rows.now c.requires
    (c.fill.ensures.after (λ y e. e) ∙ ap (λ (k : ℕ). replicate k 0) (mid_len a.at (a.at + a.n) a.rows.now c.requires ∙ omega arith))
    (length-replicate a.n 0)
