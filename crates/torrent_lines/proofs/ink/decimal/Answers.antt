-- `torrent_lines::ink::decimal` meets its contract: the writer's digits, put as any bytes are. Assumes nothing.
use Rattle.std.proofs.Common.{arith}
use Rattle.bencode_writer.proofs.Runs.{ran-as}
use Rattle.torrent_lines.proofs.Running.{digits-there}
use Rattle.torrent_lines.proofs.ink.decimal.Goals as goal

pub slice_bounds-literal-end : goal.slice_bounds-literal-end
slice_bounds-literal-end c =
    let d = digits-there c.args.n (omega arith) c.decimal.ensures c.end-count.ensures in
    omega (arith, d.0, d.1)

pub returns : goal.returns
returns c = ran-as c.literal.ensures (digits-there c.args.n (omega arith) c.decimal.ensures c.end-count.ensures).2
