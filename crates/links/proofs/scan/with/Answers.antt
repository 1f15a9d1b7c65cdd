-- `links::scan::with` meets its contract. Assumes nothing.
use mathlib.Core.Path.{sym, ap}
use Rattle.links.specs.Places.{kept}
use Rattle.links.specs.declared.scan.Field.{Field}
use Rattle.links.proofs.scan.with.Goals as goal

pub returns-in-Hash : goal.returns-in-Hash
returns-in-Hash c = sym (ap (λ (f : Field). kept f (record { from = c.args.from; size = c.args.size }) c.args.pass) c.in-Hash.is)

pub returns-in-Name : goal.returns-in-Name
returns-in-Name c = sym (ap (λ (f : Field). kept f (record { from = c.args.from; size = c.args.size }) c.args.pass) c.in-Name.is)

pub returns-in-Address : goal.returns-in-Address
returns-in-Address c = sym (ap (λ (f : Field). kept f (record { from = c.args.from; size = c.args.size }) c.args.pass) c.in-Address.is)

pub returns-in-Other : goal.returns-in-Other
returns-in-Other c = sym (ap (λ (f : Field). kept f (record { from = c.args.from; size = c.args.size }) c.args.pass) c.in-Other.is)
