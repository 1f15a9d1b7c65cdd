-- `links::writing::byte_size` meets its contract. Assumes nothing.
use mathlib.Core.Path.{sym, ◌∙◌}
use Rattle.links.proofs.Putting.{one_byte, three-bytes}
use Rattle.links.proofs.writing.byte_size.Goals as goal

pub returns-then-is_unreserved : goal.returns-then-is_unreserved
returns-then-is_unreserved c = one_byte c.args.b (sym c.is_unreserved.ensures ∙ c.if-is_unreserved.true)

pub returns : goal.returns
returns c = three-bytes c.args.b (sym c.is_unreserved.ensures ∙ c.if-is_unreserved.false)
