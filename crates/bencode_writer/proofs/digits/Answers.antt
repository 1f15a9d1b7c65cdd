-- `bencode_writer::digits` meets its contract. Assumes nothing.
use Rattle.std.proofs.Common.{arith}
use Rattle.bencode_writer.proofs.Decimals.{length-log}
use Rattle.bencode_writer.proofs.digits.Goals as goal

pub returns : goal.returns
returns c =
    let i = c.ilog10.ensures in
    (length-log c.args.n _ (rw c.max.ensures at i.power_le) (rw c.max.ensures at i.next_power_gt), omega arith)
