-- `links::kinds::value` meets its contract. Assumes nothing.
use Rattle.links.proofs.Digits.{value_of}
use Rattle.links.proofs.kinds.value.Goals as goal

pub returns : goal.returns
returns c = value_of c.args.b c.requires
