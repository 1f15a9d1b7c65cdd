-- `bencode::past` meets its contract. Assumes nothing.
use Rattle.bencode.proofs.Turns.{told-past}
use Rattle.bencode.proofs.past.Goals as goal

pub returns : goal.returns
returns c = told-past c.args.at c.args.count
