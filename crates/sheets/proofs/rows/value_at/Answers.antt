-- `sheets::rows::value_at` meets its contract. Assumes nothing.
use Rattle.std.specs.Prelude.{◌≡◌, Err}
use Rattle.std.proofs.Common.{sym, subst, rules}
use Rattle.bencode.proofs.Turns.{bad-got}
use Rattle.sheets.specs.Turns.{Reads, value_in_of}
use Rattle.sheets.proofs.Lines.{other-read}
use Rattle.sheets.proofs.rows.value_at.Goals as goal

pub string-requires : goal.string-requires
string-requires c = c.digit_at.ensures.0 c.if-digit_at.true

pub returns : goal.returns
returns c = other-read c.args.sheet.now c.args.at c.args.count c.requires (c.digit_at.ensures.1 c.if-digit_at.false) c.in_ok-c.c c.in_ok-c.ensures

pub returns-in_err-c : goal.returns-in_err-c
returns-in_err-c c =
    let e : c.from_residual.result ≡ Err c.in_err-c.field-0.0 = search rules in
    subst (Reads c.args.sheet.now c.args.at c.args.count) (sym e) (bad-got (value_in_of c.args.sheet.now c.args.at c.args.count) _ c.in_err-c.ensures)
