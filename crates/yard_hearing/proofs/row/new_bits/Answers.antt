-- `new_bits` meets its contract. Assumes nothing.
use Rattle.yard_hearing.proofs.Passing.{new-digit}
use Rattle.yard_hearing.proofs.row.new_bits.Goals as goal

pub returns : goal.returns
returns c k l = new-digit c.args.had c.args.says k c.ranges.had.fits l
