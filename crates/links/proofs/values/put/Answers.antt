-- `links::values::put` meets its contract. Assumes nothing.
use Rattle.std.specs.Prelude.{Option}
use Rattle.std.proofs.Common.{sym, ap, ◌∙◌, subst, arith}
use Rattle.links.specs.Link.{Said}
use Rattle.links.specs.Reading.{stored_in}
use Rattle.links.specs.Places.{Holds, SpeltAt, size_in}
use Rattle.links.specs.declared.scan.Spelt.{Spelt}
use Rattle.links.proofs.Decoding.{held_none, held_bytes}
use Rattle.links.proofs.values.put.Goals as goal

pub decode-requires : goal.decode-requires
decode-requires c = let y = held_bytes (subst (λ (o : Option Spelt). Holds (SpeltAt c.args.text.now) o c.requires.0) c.in-Some.is c.requires.1) in (y.bytes, y.there, y.count, omega (arith, c.requires.2, ap size_in c.in-Some.is))

pub returns-in-Some : goal.returns-in-Some
returns-in-Some c = λ v h. let y = held_bytes (subst (λ (o : Option Spelt). Holds (SpeltAt c.args.text.now) o v) c.in-Some.is h) in c.decode.ensures y.bytes y.there y.count ∙ ap (λ (w : Said). stored_in w c.args.out.now) (sym y.told)

pub returns-in-None : goal.returns-in-None
returns-in-None c = λ v h. ap (λ (w : Said). stored_in w c.args.out.now) (sym (held_none (subst (λ (o : Option Spelt). Holds (SpeltAt c.args.text.now) o v) c.in-None.is h)))
