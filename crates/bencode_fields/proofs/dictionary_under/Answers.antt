-- `bencode_fields::dictionary_under` meets its contract. Assumes nothing.
use Rattle.std.proofs.Common.{rules}
use Rattle.bencode_fields.specs.Looks.{dictionary_of}
use Rattle.bencode_fields.proofs.dictionary_under.Goals as goal

pub returns : goal.returns
returns c = c.under.ensures (dictionary_of c.args.text.now) (λ q r l p. search rules)
