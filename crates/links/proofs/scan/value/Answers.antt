-- `links::scan::value` meets its contract. Assumes nothing.
use Rattle.std.specs.Prelude.{◌≡◌, [], Err}
use Rattle.std.proofs.Common.{ap, ◌∙◌, rules}
use Rattle.links.specs.Reading.{value}
use Rattle.links.specs.Places.{answer_at, closed_at}
use Rattle.links.proofs.Pairing.{turned_as, value-within, value-closed}
use Rattle.links.proofs.scan.value.Goals as goal

pub closed-requires : goal.closed-requires
closed-requires c = value-within c.args.text.now c.args.from c.args.pass c.args.field _ _ c.in_ok-to.ensures

pub returns-in_err-to : goal.returns-in_err-to
returns-in_err-to c =
    let e : c.from_residual.result ≡ Err c.in_err-to.field-0.0 = search rules in
    λ n w g. turned_as c.args.text.now (answer_at c.args.text.now c.args.from n (value c.args.field [])) c.args.from _ e (c.in_err-to.ensures n c.args.field [])

pub returns : goal.returns
returns c = λ n w g. turned_as c.args.text.now (answer_at c.args.text.now c.args.from n (value c.args.field [])) c.args.from _ (c.closed.ensures ∙ ap (closed_at c.args.text.now c.in_ok-to.to) c.with.ensures) (value-closed c.args.text.now c.args.from c.args.pass c.args.field _ _ c.in_ok-to.ensures n w g)
