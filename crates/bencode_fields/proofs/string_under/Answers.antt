-- `bencode_fields::string_under` meets its contract. Assumes nothing.
use Rattle.std.proofs.Common.{rules}
use Rattle.bencode_fields.specs.Looks.{string_of}
use Rattle.bencode_fields.proofs.string_under.Goals as goal

pub returns : goal.returns
returns c = c.under.ensures (string_of c.args.text.now) (λ q r l p. search rules)
