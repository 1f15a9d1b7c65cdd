-- `agrees` meets its contract: the digest compared, or the refusal handed on. Assumes nothing.
use Rattle.std.proofs.Common.{rules, List, ℕ, replicate, ap, ◌∙◌, eqb}
use lib.Pointwise.{pointwise}
use Rattle.refusal.specs.Paper.{taken}
use Rattle.hash_sha1.proofs.Same.{same-pointwise}
use Rattle.hash_sha1.proofs.Steps.{agrees-written, agrees-refused}
use Rattle.hash_sha1.proofs.agrees.Goals as goal

pub returns-in_err-digest : goal.returns-in_err-digest
returns-in_err-digest c =
    let g = agrees-refused c.args.message.now c.args.expected.now (replicate 20 0) c.digest.new.out c.digest.result c.digest.ensures c.in_err-digest.field-0.0 c.in_err-digest.was in
    search (rules, g)

pub returns : goal.returns
returns c = agrees-written c.args.message.now c.args.expected.now (replicate 20 0) c.digest.new.out c.digest.result c.digest.ensures c.in_ok-digest.was (ap taken (c.eq.ensures ∙ ap (λ (y : List ℕ). pointwise eqb y c.args.expected.now) c.as_slice.ensures ∙ same-pointwise _ _))
