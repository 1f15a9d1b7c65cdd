-- `sheets::rows::string` meets its contract. Assumes nothing.
use Rattle.std.specs.Prelude.{◌≡◌, Err}
use Rattle.std.proofs.Common.{sym, ◌+◌, subst, arith, rules}
use Rattle.sheets.specs.Turns.{Reads}
use Rattle.sheets.proofs.Lines.{string-read, string-unread, string-many}
use Rattle.sheets.proofs.rows.string.Goals as goal

pub returns-then-count-ge-VALUES : goal.returns-then-count-ge-VALUES
returns-then-count-ge-VALUES c = subst (λ r. Reads c.args.sheet.now c.args.at c.args.count (Err r)) (sym c.refuse.ensures) (string-many c.args.sheet.now c.args.at c.args.count c.requires.0 c.requires.1 (omega arith))

pub returns : goal.returns
returns c = string-read c.args.sheet.now c.args.at c.args.count c.requires.0 c.requires.1 (omega arith) c.in_ok-string.field-0 (c.in_ok-string.ensures (c.args.count + 1))

pub returns-in_err-string : goal.returns-in_err-string
returns-in_err-string c =
    let e : c.from_residual.result ≡ Err c.in_err-string.field-0.0 = search rules in
    subst (Reads c.args.sheet.now c.args.at c.args.count) (sym e) (string-unread c.args.sheet.now c.args.at c.args.count c.requires.0 c.requires.1 (omega arith) _ (c.in_err-string.ensures (c.args.count + 1)))
