-- `bencode_scalar::negative` meets its contract. Assumes nothing.
use Rattle.std.proofs.Common.{arith, drop, ◌+◌, sym, ◌∙◌}
use Rattle.bencode_scalar.proofs.Printed.{num_pos}
use Rattle.bencode_scalar.proofs.negative.Goals as goal

pub below_zero-requires : goal.below_zero-requires
below_zero-requires c = omega (arith, c.in_ok-run.ensures.0, num_pos c.in_ok-first.first (drop (c.args.at + 1) c.args.text.now) (sym c.digit.ensures ∙ c.if-not-digit.false) c.if-first-eq48.false)
