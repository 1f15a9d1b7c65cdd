-- `sheets::rows::entered` meets its contract. Assumes nothing.
use Rattle.std.specs.Prelude.{◌≡◌, Ok, Err}
use Rattle.std.proofs.Common.{sym, ◌+◌, subst, arith, rules}
use Rattle.sheets.specs.Turns.{prev_in, Reads, Turned}
use Rattle.sheets.proofs.Lines.{value-begins, string-ends, entered-string, entered-other, line-unread}
use Rattle.sheets.proofs.rows.entered.Goals as goal

pub overflow_add-place : goal.overflow_add-place
overflow_add-place c = omega (arith, value-begins c.args.sheet.now c.args.hash.now c.args.stage c.args.k c.requires.0 c.requires.1)

pub overflow_add-count : goal.overflow_add-count
overflow_add-count c = omega (arith, value-begins c.args.sheet.now c.args.hash.now c.args.stage c.args.k c.requires.0 c.requires.1)

pub value_at-requires : goal.value_at-requires
value_at-requires c = (value-begins c.args.sheet.now c.args.hash.now c.args.stage c.args.k c.requires.0 c.requires.1).0

pub overflow_add-v : goal.overflow_add-v
overflow_add-v c = omega (arith, string-ends c.args.sheet.now c.args.hash.now c.args.stage c.args.k c.requires.0 c.requires.1 c.in-String.v (subst (λ h. Reads c.args.sheet.now (c.args.k.from + c.args.k.len) (c.args.stage.count + 1) (Ok h)) c.in-String.is c.in_ok-v.ensures))

pub overflow_add-count-in-String : goal.overflow_add-count-in-String
overflow_add-count-in-String c = omega (arith, string-ends c.args.sheet.now c.args.hash.now c.args.stage c.args.k c.requires.0 c.requires.1 c.in-String.v (subst (λ h. Reads c.args.sheet.now (c.args.k.from + c.args.k.len) (c.args.stage.count + 1) (Ok h)) c.in-String.is c.in_ok-v.ensures))

pub returns-in-String : goal.returns-in-String
returns-in-String c = subst (Turned c.args.sheet.now c.args.hash.now c.args.stage) (sym c.on.ensures) (entered-string c.args.sheet.now c.args.hash.now c.args.stage c.args.k c.requires.0 c.requires.1 c.in-String.v (subst (λ h. Reads c.args.sheet.now (c.args.k.from + c.args.k.len) (c.args.stage.count + 1) (Ok h)) c.in-String.is c.in_ok-v.ensures) c.with_address.result c.with_address.ensures)

pub returns-in-Other : goal.returns-in-Other
returns-in-Other c = subst (Turned c.args.sheet.now c.args.hash.now c.args.stage) (sym c.on-in-Other.ensures) (entered-other c.args.sheet.now c.args.hash.now c.args.stage c.args.k c.requires.0 c.requires.1 c.in-Other.next c.in-Other.more (subst (λ h. Reads c.args.sheet.now (c.args.k.from + c.args.k.len) (c.args.stage.count + 1) (Ok h)) c.in-Other.is c.in_ok-v.ensures) c.without.result c.without.ensures)

pub returns-in_err-v : goal.returns-in_err-v
returns-in_err-v c =
    let e : c.from_residual.result ≡ Err c.in_err-v.field-0.0 = search rules in
    subst (Turned c.args.sheet.now c.args.hash.now c.args.stage) (sym e) (line-unread c.args.sheet.now (prev_in c.args.sheet.now c.args.stage.before) c.args.stage.at c.args.stage.count c.args.k c.requires.1 _ c.in_err-v.ensures)
