-- `yard_tables::bits::bit_of` meets its contract. Assumes nothing.
use Prim.Native.Nat.{◌-◌, ◌%◌}
use Rattle.yard_tables.proofs.Digits.{digit_shift}
use Rattle.yard_tables.proofs.bits.bit_of.Goals as goal

pub returns : goal.returns
returns c = digit_shift (7 - c.args.p % 8) c.args.b
