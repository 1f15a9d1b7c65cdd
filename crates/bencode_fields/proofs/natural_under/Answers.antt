-- `bencode_fields::natural_under` meets its contract. Assumes nothing.
use Rattle.std.proofs.Common.{rules}
use Rattle.bencode_fields.specs.Looks.{natural_of}
use Rattle.bencode_fields.proofs.natural_under.Goals as goal

pub returns : goal.returns
returns c = c.under.ensures (natural_of c.args.most c.args.text.now) (λ q r l p. search rules)
