-- `links::scan::named` meets its contract. Assumes nothing.
use mathlib.Core.Path.{sym, ◌∙◌}
use Rattle.refusal.proofs.Cases.{no_way}
use Rattle.links.proofs.Pairing.{again-off, first-hash, first-value}
use native.Mathlib.Omega.{arith}
use Rattle.links.proofs.scan.named.Goals as goal

pub returns-then-has : goal.returns-then-has
returns-then-has c = λ n w. (again-off c.args.text.now c.args.at c.args.stop c.args.pass _ c.requires.0 c.requires.1 c.field_of-field.ensures (sym c.has.ensures ∙ c.if-has.true) n w)

pub value-requires : goal.value-requires
value-requires c = omega arith

pub value-requires-in-Address : goal.value-requires-in-Address
value-requires-in-Address c = omega arith

pub value-requires-in-Other : goal.value-requires-in-Other
value-requires-in-Other c = omega arith

pub returns-in-Hash : goal.returns-in-Hash
returns-in-Hash c = first-hash c.args.text.now c.args.at c.args.stop c.args.pass _ c.requires.0 c.requires.1 c.field_of-field.ensures (sym c.has.ensures ∙ c.if-has.false) c.hash.result c.in-Hash.is c.hash.ensures

pub returns-in-Name : goal.returns-in-Name
returns-in-Name c = first-value c.args.text.now c.args.at c.args.stop c.args.pass _ c.requires.0 c.requires.1 c.field_of-field.ensures (sym c.has.ensures ∙ c.if-has.false) c.value.result (λ e. no_way (let g = c.in-Name.is in cc)) c.value.ensures

pub returns-in-Address : goal.returns-in-Address
returns-in-Address c = first-value c.args.text.now c.args.at c.args.stop c.args.pass _ c.requires.0 c.requires.1 c.field_of-field.ensures (sym c.has.ensures ∙ c.if-has.false) c.value-in-Address.result (λ e. no_way (let g = c.in-Address.is in cc)) c.value-in-Address.ensures

pub returns-in-Other : goal.returns-in-Other
returns-in-Other c = first-value c.args.text.now c.args.at c.args.stop c.args.pass _ c.requires.0 c.requires.1 c.field_of-field.ensures (sym c.has.ensures ∙ c.if-has.false) c.value-in-Other.result (λ e. no_way (let g = c.in-Other.is in cc)) c.value-in-Other.ensures
