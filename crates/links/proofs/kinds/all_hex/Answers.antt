-- `links::kinds::all_hex` meets its contract. Assumes nothing.
use Rattle.refusal.proofs.Cases.{no_way}
use borrow.Author.Tests.{eqb-true}
use Rattle.links.proofs.kinds.all_hex.Goals as goal

pub returns-then-text-from-lt40 : goal.returns-then-text-from-lt40
returns-then-text-from-lt40 c = λ e. no_way (cc)

pub returns : goal.returns
returns c = λ e. c.others.ensures (eqb-true _ 0 e)
