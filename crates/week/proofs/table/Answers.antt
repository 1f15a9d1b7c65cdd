-- `week::table` meets its contract. Assumes nothing.
use Rattle.std.specs.Prelude.{◌≡◌, Err}
use Rattle.std.proofs.Common.{sym, ap, ◌∙◌, arith, rules}
use Rattle.refusal.specs.Paper.{refusal, paper}
use Rattle.week.proofs.Tabling.{count_most, table-long, table-all, table-bad}
use Rattle.week.proofs.table.Goals as goal

pub returns-then-file-gt-TEXT : goal.returns-then-file-gt-TEXT
returns-then-file-gt-TEXT c = ap refusal c.refuse.ensures ∙ table-long c.args.file.now (omega arith)

pub all-requires : goal.all-requires
all-requires c = (count_most c.args.file.now (sym c.in_ok-n.ensures), omega arith)

pub returns : goal.returns
returns c = c.all.ensures ∙ table-all c.args.file.now (omega arith) (sym c.in_ok-n.ensures)

pub returns-in_err-n : goal.returns-in_err-n
returns-in_err-n c =
    let e : c.from_residual.result ≡ Err c.in_err-n.field-0.0 = search rules in
    ap paper e ∙ table-bad c.args.file.now (omega arith) (sym c.in_err-n.ensures)
