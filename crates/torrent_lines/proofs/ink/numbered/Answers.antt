-- `torrent_lines::ink::numbered` meets its contract. Assumes nothing.
use Rattle.torrent_lines.proofs.Running.{digits-most}
use Rattle.bencode_writer.proofs.Runs.{ran_then}
use Rattle.std.proofs.Common.{arith}
use Rattle.torrent_lines.proofs.ink.numbered.Goals as goal

pub literal-requires : goal.literal-requires
literal-requires c = omega (arith, c.decimal-to.ensures.place, digits-most c.args.n (omega arith))

pub returns : goal.returns
returns c = record { ran = ran_then c.decimal-to.ensures c.literal.ensures; near = omega (arith, c.decimal-to.ensures.place, c.literal.ensures.place, digits-most c.args.n (omega arith)) }
