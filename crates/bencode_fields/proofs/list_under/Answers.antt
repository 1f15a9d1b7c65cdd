-- `bencode_fields::list_under` meets its contract. Assumes nothing.
use Rattle.std.proofs.Common.{rules}
use Rattle.bencode_fields.specs.Looks.{list_of}
use Rattle.bencode_fields.proofs.list_under.Goals as goal

pub returns : goal.returns
returns c = c.under.ensures (list_of c.args.text.now) (λ q r l p. search rules)
