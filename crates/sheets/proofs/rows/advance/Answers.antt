-- `sheets::rows::advance` meets its contract. Assumes nothing.
use Rattle.std.specs.Prelude.{◌≡◌, Err}
use Rattle.std.proofs.Common.{sym, subst, rules}
use Rattle.sheets.specs.Turns.{prev_in, Turned}
use Rattle.sheets.proofs.Lines.{line-no-key}
use Rattle.sheets.proofs.rows.advance.Goals as goal

pub entered-requires : goal.entered-requires
entered-requires c = (c.requires, c.in_ok-k.ensures)

pub returns-in_err-k : goal.returns-in_err-k
returns-in_err-k c =
    let e : c.from_residual.result ≡ Err c.in_err-k.field-0.0 = search rules in
    subst (Turned c.args.sheet.now c.args.hash.now c.args.stage) (sym e) (line-no-key c.args.sheet.now (prev_in c.args.sheet.now c.args.stage.before) c.args.stage.at c.args.stage.count _ c.in_err-k.ensures)
