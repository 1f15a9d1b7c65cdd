-- `links::read` meets its contract. Assumes nothing.
use Rattle.std.specs.Prelude.{Err}
use mathlib.Core.Path.{ap, ◌∙◌, subst}
use Rattle.links.specs.Reading.{fed, finish, begun}
use Rattle.links.specs.Places.{Scanned, ScannedAs}
use Rattle.links.proofs.Answers.{found_in, read-long, read-broken, read_found}
use Rattle.links.proofs.read.Goals as goal

pub returns-then-text-gt-TEXT : goal.returns-then-text-gt-TEXT
returns-then-text-gt-TEXT c = read-long c.args.text.now c.args.hash.now c.args.name.now c.args.address.now c.if-text-gt-TEXT.true (ap Err c.refuse.ensures)

pub store-requires : goal.store-requires
store-requires c = let f = (found_in (subst (λ (r : Scanned). ScannedAs c.args.text.now r (finish (fed begun c.args.text.now))) c.in-Ok.is c.scan.ensures)) in (f.meaning, f.hash, f.name, f.address)

pub returns-in-Ok : goal.returns-in-Ok
returns-in-Ok c = let f = (found_in (subst (λ (r : Scanned). ScannedAs c.args.text.now r (finish (fed begun c.args.text.now))) c.in-Ok.is c.scan.ensures)) in c.store.ensures f.meaning f.hash f.name f.address ∙ read_found c.args.text.now c.args.hash.now c.args.name.now c.args.address.now c.if-text-gt-TEXT.false f

pub returns-in-Err : goal.returns-in-Err
returns-in-Err c = read-broken c.args.text.now c.args.hash.now c.args.name.now c.args.address.now c.if-text-gt-TEXT.false (subst (λ (r : Scanned). ScannedAs c.args.text.now r (finish (fed begun c.args.text.now))) c.in-Err.is c.scan.ensures) (ap Err c.refuse-in-Err.ensures)
