-- `yard_tables::bits::mask` meets its contract. Assumes nothing.
use Prim.Native.Nat.{◌%◌}
use native.Mathlib.Omega.{arith}
use Rattle.yard_tables.proofs.Digits.{mask_is}
use Rattle.yard_tables.proofs.bits.mask.Goals as goal

pub returns : goal.returns
returns c = mask_is (c.args.p % 8) (omega arith)
