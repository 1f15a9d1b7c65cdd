-- `sheets::rows::key` meets its contract. Assumes nothing.
use Rattle.std.specs.Prelude.{◌≡◌, Err}
use Rattle.std.proofs.Common.{sym, ap, ◌∙◌, ◌+◌, arith, rules}
use Rattle.bencode.proofs.Turns.{key-wrong, key-many, key-follows, key-order}
use Rattle.sheets.specs.Turns.{prev_in, key_in}
use Rattle.sheets.proofs.Lines.{key-unread, key-whole}
use Rattle.sheets.proofs.rows.key.Goals as goal

pub returns-then-digit : goal.returns-then-digit
returns-then-digit c = ap (λ r. key_in c.args.sheet.now c.args.count (Err r)) c.refuse.ensures ∙ key-many c.args.sheet.now (prev_in c.args.sheet.now c.args.before) c.args.at c.args.count c.requires (sym c.digit.ensures ∙ c.if-digit.true) (omega arith)

pub returns-then-count-ge-VALUES : goal.returns-then-count-ge-VALUES
returns-then-count-ge-VALUES c = ap (λ r. key_in c.args.sheet.now c.args.count (Err r)) c.refuse-then-count-ge-VALUES.ensures ∙ key-wrong c.args.sheet.now (prev_in c.args.sheet.now c.args.before) c.args.at c.args.count c.requires (sym c.digit.ensures ∙ c.if-digit.false)

pub returns-then-may_follow : goal.returns-then-may_follow
returns-then-may_follow c = key-follows c.args.sheet.now (prev_in c.args.sheet.now c.args.before) c.args.at c.args.count c.in_ok-k.k.from c.in_ok-k.k.len (key-whole c.args.sheet.now c.args.at c.args.count c.requires (omega arith) c.in_ok-k.k (c.in_ok-k.ensures (c.args.count + 1))) (sym c.may_follow.ensures ∙ c.if-may_follow.true)

pub returns : goal.returns
returns c = ap (λ r. key_in c.args.sheet.now c.args.count (Err r)) c.refuse-2.ensures ∙ key-order c.args.sheet.now (prev_in c.args.sheet.now c.args.before) c.args.at c.args.count c.in_ok-k.k.from c.in_ok-k.k.len (key-whole c.args.sheet.now c.args.at c.args.count c.requires (omega arith) c.in_ok-k.k (c.in_ok-k.ensures (c.args.count + 1))) (sym c.may_follow.ensures ∙ c.if-may_follow.false)

pub returns-in_err-k : goal.returns-in_err-k
returns-in_err-k c =
    let e : c.from_residual.result ≡ Err c.in_err-k.field-0.0 = search rules in
    ap (key_in c.args.sheet.now c.args.count) e ∙ key-unread c.args.sheet.now (prev_in c.args.sheet.now c.args.before) c.args.at c.args.count c.requires (omega arith) _ (c.in_err-k.ensures (c.args.count + 1))
