-- `links::writing::byte` meets its contract. Assumes nothing.
use mathlib.Core.Path.{sym, ap, ◌∙◌}
use Prim.Native.Nat.{ℕ}
use lib.ListN.{length}
use Rattle.links.specs.Writing.{unreserved}
use Rattle.bencode_writer.proofs.Escapes.{escape-other}
use Rattle.bencode_writer.proofs.Runs.{ran-as, put-ran}
use Rattle.links.proofs.Putting.{put-plain, one_byte, three-bytes}
use native.Mathlib.Omega.{arith}
use Rattle.links.proofs.writing.byte.Goals as goal

pub bounds-out-at : goal.bounds-out-at
bounds-out-at c = omega (arith, (one_byte c.args.b (sym c.is_unreserved.ensures ∙ c.if-is_unreserved.true)).0)

pub returns-then-is_unreserved : goal.returns-then-is_unreserved
returns-then-is_unreserved c = put-plain c.args.b c.args.at c.args.out.now (sym c.is_unreserved.ensures ∙ c.if-is_unreserved.true)

pub returns : goal.returns
returns c = ran-as (put-ran _ _ _ (omega (arith, ap (length {A = ℕ}) c.escape.ensures, (three-bytes c.args.b (sym c.is_unreserved.ensures ∙ c.if-is_unreserved.false)).0, c.requires)) c.literal.ensures c.end.ensures) (c.escape.ensures ∙ escape-other unreserved c.args.b (sym c.is_unreserved.ensures ∙ c.if-is_unreserved.false))
