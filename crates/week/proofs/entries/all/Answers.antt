-- `week::entries::all` meets its contract. Assumes nothing.
use Rattle.refusal.specs.Paper.{refusal, paper}
use Rattle.std.specs.Prelude.{◌≡◌, Err}
use Rattle.std.proofs.Common.{sym, ap, ◌∙◌, arith, rules}
use Rattle.week.proofs.Tabling.{going_on, going-bad, going_more, going_end}
use Rattle.week.proofs.entries.all.Goals as goal

pub loop-i-preserved : goal.loop-i-preserved
loop-i-preserved c = going_on c.args.file.now c.args.n c.loop-i.i c.loop-i.at c.loop-i.invariant (omega arith) (omega arith) (sym c.in_ok-at.ensures)

pub returns-in_err-at : goal.returns-in_err-at
returns-in_err-at c =
    let e : c.from_residual.result ≡ Err c.in_err-at.field-0.0 = search rules in
    ap paper e ∙ going-bad c.args.file.now c.args.n c.loop-i.i c.loop-i.at c.loop-i.invariant (omega arith) (sym c.in_err-at.ensures)

pub returns-then-at-file : goal.returns-then-at-file
returns-then-at-file c = ap refusal c.refuse.ensures ∙ going_more c.args.file.now c.args.n c.loop-i.i c.loop-i.at c.loop-i.invariant (omega arith) (omega arith)

pub returns : goal.returns
returns c = going_end c.args.file.now c.args.n c.loop-i.i c.loop-i.at c.loop-i.invariant (omega arith) (omega arith)
