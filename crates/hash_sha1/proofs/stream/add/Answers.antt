-- `add` meets its contract: within the limit, or not. Assumes nothing.
use Rattle.std.proofs.Common.{sym, ◌∙◌, arith}
use Rattle.hash_sha1.proofs.Parts.{add-whole, add-over}
use Rattle.hash_sha1.proofs.stream.add.Goals as goal

pub returns-then-before-gt-PIECE : goal.returns-then-before-gt-PIECE
returns-then-before-gt-PIECE c = c.empty.ensures ∙ sym (add-over c.args.s c.args.part.now (omega arith))

pub returns : goal.returns
returns c = c.longer.ensures ∙ sym (add-whole c.args.s c.args.part.now (omega arith))
