-- `bencode_walk::integer` meets its contract. Assumes nothing.
use Rattle.std.specs.Prelude.{Ok}
use Rattle.std.proofs.Common.{sym, ap, ◌∙◌}
use Rattle.bencode_walk.proofs.Seeing.{wide}
use Rattle.bencode_walk.proofs.integer.Goals as goal

pub long-requires : goal.long-requires
long-requires c = wide c.args.at c.args.text.now c.in-Large.next (ap Ok (sym c.in-Large.is) ∙ c.in_ok-z.ensures 0)
