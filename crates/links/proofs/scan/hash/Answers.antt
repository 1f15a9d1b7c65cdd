-- `links::scan::hash` meets its contract. Assumes nothing.
use mathlib.Core.Path.{ap, ◌∙◌}
use Prim.Native.Nat.{◌+◌}
use Rattle.links.specs.Reading.{opening}
use Rattle.links.specs.Places.{answer_at, closed_at}
use Rattle.links.specs.declared.scan.Field.TheVariants.{Hash}
use Rattle.links.proofs.Pairing.{turned_as, urn-broken, lead-within, digits-broken, hash-within, hash-closed}
use native.Mathlib.Omega.{arith}
use Rattle.links.proofs.scan.hash.Goals as goal

pub returns-then-lead-lt9 : goal.returns-then-lead-lt9
returns-then-lead-lt9 c = λ n w. urn-broken c.args.text.now c.args.from c.args.pass _ c.word-lead.ensures c.if-lead-lt9.true n

pub hash_digits-count-requires : goal.hash_digits-count-requires
hash_digits-count-requires c = lead-within c.args.text.now c.args.from c.args.pass (omega (arith, c.word-lead.ensures, c.if-lead-lt9.false))

pub returns-then-count-lt40 : goal.returns-then-count-lt40
returns-then-count-lt40 c = λ n w. digits-broken c.args.text.now c.args.from c.args.pass (omega (arith, c.word-lead.ensures, c.if-lead-lt9.false)) _ c.hash_digits-count.ensures c.if-count-lt40.true n

pub closed-requires : goal.closed-requires
closed-requires c = hash-within c.args.text.now c.args.from c.args.pass (omega (arith, c.word-lead.ensures, c.if-lead-lt9.false)) (omega (arith, c.hash_digits-count.ensures, c.if-count-lt40.false))

pub returns : goal.returns
returns c = λ n w. turned_as c.args.text.now (answer_at c.args.text.now c.args.from n (opening Hash)) c.args.from _ (c.closed.ensures ∙ ap (closed_at c.args.text.now (c.args.from + 49)) c.with.ensures) (hash-closed c.args.text.now c.args.from c.args.pass (omega (arith, c.word-lead.ensures, c.if-lead-lt9.false)) (omega (arith, c.hash_digits-count.ensures, c.if-count-lt40.false)) n w)
