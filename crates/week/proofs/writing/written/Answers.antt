-- `week::writing::written` meets its contract. Assumes nothing.
use Rattle.std.specs.Prelude.{◌≡◌, Err}
use Rattle.std.proofs.Common.{ap, ◌∙◌, rules}
use Rattle.refusal.specs.Paper.{paper}
use Rattle.bencode_writer.specs.Put.{left}
use Rattle.week.proofs.Packing.{all-hashed, not-hashed}
use Rattle.week.proofs.writing.written.Goals as goal

pub returns : goal.returns
returns c = c.stored.ensures ∙ all-hashed c.args.lengths.now c.args.bodies.now _ c.args.out.now _ c.hash_all.ensures c.in_ok-hash_all.was

pub returns-in_err-hash_all : goal.returns-in_err-hash_all
returns-in_err-hash_all c =
    let e : c.from_residual.result ≡ Err c.in_err-hash_all.field-0.0 = search rules in
    ap (λ x. left (paper x) c.args.out.now) e ∙ not-hashed c.args.lengths.now c.args.bodies.now _ c.args.out.now _ c.hash_all.ensures c.in_err-hash_all.was
