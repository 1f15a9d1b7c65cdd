-- `sheets::rows::read` meets its contract. Assumes nothing.
use Rattle.std.specs.Prelude.{◌≡◌, Err}
use Rattle.std.proofs.Common.{ap, ◌∙◌, arith, rules}
use Rattle.refusal.specs.Paper.{refusal}
use Rattle.sheets.specs.Reading.{listed_as}
use Rattle.sheets.proofs.Passing.{read-long, read-unread, read-other}
use Rattle.sheets.proofs.rows.read.Goals as goal

pub returns-then-sheet-gt-TEXT : goal.returns-then-sheet-gt-TEXT
returns-then-sheet-gt-TEXT c = ap refusal c.refuse.ensures ∙ read-long c.args.sheet.now c.args.hash.now c.if-sheet-gt-TEXT.true

pub returns-then-opens : goal.returns-then-opens
returns-then-opens c = c.pass.ensures (omega arith) (c.opens.ensures.0 c.if-opens.true).0 (c.opens.ensures.0 c.if-opens.true).1

pub returns : goal.returns
returns c = ap refusal c.refuse-2.ensures ∙ read-other c.args.sheet.now c.args.hash.now _ c.in_ok-check.ensures.meets (c.opens.ensures.1 c.if-opens.false)

pub returns-in_err-check : goal.returns-in_err-check
returns-in_err-check c =
    let e : c.from_residual.result ≡ Err c.in_err-check.field-0.0 = search rules in
    ap listed_as e ∙ read-unread c.args.sheet.now c.args.hash.now _ c.in_err-check.ensures.meets
