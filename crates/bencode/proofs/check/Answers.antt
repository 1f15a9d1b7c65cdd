-- `bencode::check` meets its contract. Assumes nothing.
use Rattle.std.proofs.Common.{◌≡◌, ap, ◌∙◌, arith, rules}
use Rattle.std.specs.Prelude.{Err}
use Rattle.refusal.specs.Paper.{paper, refusal}
use Rattle.bencode.proofs.Exact.{exactly-as, check-long, check-bad, check-more, check-taken}
use Rattle.bencode.proofs.check.Goals as goal

pub returns-then-text-gt-TEXT : goal.returns-then-text-gt-TEXT
returns-then-text-gt-TEXT c = let p = exactly-as c.args.text.now _ (ap refusal c.refuse.ensures ∙ check-long c.args.text.now c.if-text-gt-TEXT.true) in record { meets = p.0; exact = p.1 }

pub returns-in_err-c : goal.returns-in_err-c
returns-in_err-c c =
    let e : c.from_residual.result ≡ Err c.in_err-c.field-0.0 = search rules in
    let p = exactly-as c.args.text.now _ (ap paper e ∙ check-bad c.args.text.now (omega arith) _ c.in_err-c.ensures) in
    record { meets = p.0; exact = p.1 }

pub returns-then-at-text : goal.returns-then-at-text
returns-then-at-text c = let p = exactly-as c.args.text.now _ (ap refusal c.refuse-then-at-text.ensures ∙ check-more c.args.text.now (omega arith) c.in_ok-c.c c.in_ok-c.ensures (omega arith)) in record { meets = p.0; exact = p.1 }

pub returns : goal.returns
returns c = let p = exactly-as c.args.text.now _ (check-taken c.args.text.now (omega arith) c.in_ok-c.c c.in_ok-c.ensures (omega arith)) in record { meets = p.0; exact = p.1 }
