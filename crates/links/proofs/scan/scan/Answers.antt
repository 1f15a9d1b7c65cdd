-- `links::scan::scan` meets its contract. Assumes nothing.
use Rattle.std.specs.Prelude.{◌≡◌, [], ℕ, Err, Ok, Option}
use Rattle.std.proofs.Common.{refl, subst, arith, rules}
use Rattle.links.specs.Reading.{naming}
use Rattle.links.specs.Places.{TurnedAs, answer_at}
use Rattle.links.proofs.Pairing.{prefix-broken, passing-start, passing-more, passing-further, passing-last, passing-broken}
use Rattle.links.proofs.scan.scan.Goals as goal

pub returns-then-start-lt8 : goal.returns-then-start-lt8
returns-then-start-lt8 c = prefix-broken c.args.text.now _ _ refl c.word-start.ensures c.if-start-lt8.true

pub loop-said-init : goal.loop-said-init
loop-said-init c = passing-start c.args.text.now _ refl (omega (arith, c.word-start.ensures, c.if-start-lt8.false))

pub pair-requires : goal.pair-requires
pair-requires c = c.loop-said.invariant.end

pub loop-said-smaller : goal.loop-said-smaller
loop-said-smaller c = omega (arith, passing-further c.args.text.now c.loop-said.invariant _ _ (subst (λ (k : Option ℕ). TurnedAs c.args.text.now (answer_at c.args.text.now c.loop-said.at c.loop-said.invariant.seen (naming [])) c.loop-said.at (Ok (c.in_ok-said.said, k))) c.in-Some.is (c.in_ok-said.ensures c.loop-said.invariant.seen c.loop-said.invariant.shows)))

pub loop-said-preserved : goal.loop-said-preserved
loop-said-preserved c = passing-more c.args.text.now c.loop-said.invariant _ _ (subst (λ (k : Option ℕ). TurnedAs c.args.text.now (answer_at c.args.text.now c.loop-said.at c.loop-said.invariant.seen (naming [])) c.loop-said.at (Ok (c.in_ok-said.said, k))) c.in-Some.is (c.in_ok-said.ensures c.loop-said.invariant.seen c.loop-said.invariant.shows))

pub returns-in-None : goal.returns-in-None
returns-in-None c = passing-last c.args.text.now c.loop-said.invariant _ _ c.whole.ensures (subst (λ (k : Option ℕ). TurnedAs c.args.text.now (answer_at c.args.text.now c.loop-said.at c.loop-said.invariant.seen (naming [])) c.loop-said.at (Ok (c.in_ok-said.said, k))) c.in-None.is (c.in_ok-said.ensures c.loop-said.invariant.seen c.loop-said.invariant.shows))

pub returns-in_err-said : goal.returns-in_err-said
returns-in_err-said c =
    let e : c.from_residual.result ≡ Err c.in_err-said.field-0.0 = search rules in
    passing-broken c.args.text.now c.loop-said.invariant _ _ e (c.in_err-said.ensures c.loop-said.invariant.seen c.loop-said.invariant.shows)
