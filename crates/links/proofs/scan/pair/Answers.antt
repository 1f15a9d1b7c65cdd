-- `links::scan::pair` meets its contract. Assumes nothing.
use mathlib.Core.List.{[]}
use lib.ListN.{length-drop}
use borrow.Author.Tests.{eq-eqb, ne_eqb}
use Rattle.links.specs.Link.{name_byte}
use Rattle.links.specs.Reading.{naming}
use Rattle.links.specs.Places.{answer_at}
use Rattle.links.proofs.Lengths.{runs-within}
use Rattle.links.proofs.Turning.{no_name, name-cut, no-equals, equals}
use Rattle.links.proofs.Pairing.{turned-from}
use lib.ListN.{drop}
use native.Mathlib.Omega.{arith}
use Rattle.links.proofs.scan.pair.Goals as goal

pub returns-then-stop-at : goal.returns-then-stop-at
returns-then-stop-at c = λ n w. no_name c.args.text.now c.args.at n c.requires (omega (arith, c.name_end-stop.ensures, c.if-stop-at.true))

pub returns-then-stop-text : goal.returns-then-stop-text
returns-then-stop-text c = λ n w. name-cut c.args.text.now c.args.at n _ c.name_end-stop.ensures c.if-stop-text.true

pub bounds-text-stop : goal.bounds-text-stop
bounds-text-stop c = omega (arith, c.name_end-stop.ensures, runs-within name_byte (drop c.args.at c.args.text.now), length-drop c.args.at c.args.text.now, c.if-stop-text.false)

pub returns-then-text-stop-ne61 : goal.returns-then-text-stop-ne61
returns-then-text-stop-ne61 c = λ n w. no-equals c.args.text.now c.args.at n _ c.name_end-stop.ensures (omega (arith, c.name_end-stop.ensures, runs-within name_byte (drop c.args.at c.args.text.now), length-drop c.args.at c.args.text.now, c.if-stop-text.false)) (ne_eqb _ 61 c.if-text-stop-ne61.true)

pub named-requires : goal.named-requires
named-requires c = (omega (arith, c.name_end-stop.ensures, c.if-stop-at.false), omega (arith, c.name_end-stop.ensures, runs-within name_byte (drop c.args.at c.args.text.now), length-drop c.args.at c.args.text.now, c.if-stop-text.false))

pub returns : goal.returns
returns c = λ n w. turned-from c.args.text.now (answer_at c.args.text.now c.args.at n (naming [])) c.args.at _ c.named.result (equals c.args.text.now c.args.at n _ c.name_end-stop.ensures (omega (arith, c.name_end-stop.ensures, runs-within name_byte (drop c.args.at c.args.text.now), length-drop c.args.at c.args.text.now, c.if-stop-text.false)) (eq-eqb _ 61 c.if-text-stop-ne61.false)) (c.named.ensures n w)
