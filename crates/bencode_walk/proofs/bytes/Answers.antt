-- `bencode_walk::bytes` meets its contract. Assumes nothing.
use borrow.Author.Rules.{rules}
use Rattle.bencode_walk.proofs.Seeing.{part-there}
use Rattle.bencode_walk.proofs.bytes.Goals as goal

pub returns : goal.returns
returns c = record { same = part-there c.args.text.now c.args.p.from c.args.p.len _ _ c.least-from.ensures c.least-len.ensures; there = search rules }
