-- `links::kinds::is_plain` meets its contract. Assumes nothing.
use borrow.Author.Tests.{eq-eqb, ne_eqb}
use Rattle.links.proofs.Digits.{above-plain, most-plain, below_plain, plain-hash, plain-percent, plain-and}
use native.Mathlib.Omega.{arith}
use Rattle.links.proofs.kinds.is_plain.Goals as goal

pub returns-then-b-gt126 : goal.returns-then-b-gt126
returns-then-b-gt126 c = above-plain c.args.b (omega arith)

pub returns-then-b-gt38 : goal.returns-then-b-gt38
returns-then-b-gt38 c = most-plain c.args.b (omega arith) (omega arith)

pub returns-then-b-lt33 : goal.returns-then-b-lt33
returns-then-b-lt33 c = below_plain c.args.b (omega arith)

pub returns-then-b-eq35 : goal.returns-then-b-eq35
returns-then-b-eq35 c = plain-hash c.args.b (omega arith) (omega arith) (eq-eqb _ 35 c.if-b-eq35.true)

pub returns-then-b-eq37 : goal.returns-then-b-eq37
returns-then-b-eq37 c = plain-percent c.args.b (omega arith) (omega arith) (ne_eqb _ 35 c.if-b-eq35.false) (eq-eqb _ 37 c.if-b-eq37.true)

pub returns : goal.returns
returns c = plain-and c.args.b (omega arith) (omega arith) (ne_eqb _ 35 c.if-b-eq35.false) (ne_eqb _ 37 c.if-b-eq37.false)
