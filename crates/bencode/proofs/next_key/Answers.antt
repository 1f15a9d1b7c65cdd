-- `bencode::next_key` meets its contract. Assumes nothing.
use Rattle.std.proofs.Common.{◌≡◌, sym, ap, ◌∙◌, arith, rules}
use Rattle.std.specs.Prelude.{Err}
use Rattle.bencode.specs.Value.{start}
use Rattle.bencode.specs.Answers.{prev_of, key_is}
use Rattle.bencode.proofs.Turns.{key-further, key-follows, key-order, key-refused}
use Rattle.bencode.proofs.next_key.Goals as goal

pub returns-in_err-key : goal.returns-in_err-key
returns-in_err-key c =
    let e : c.from_residual.result ≡ Err c.in_err-key.field-0.0 = search rules in
    ap (key_is c.args.text.now c.args.count) e ∙ key-refused c.args.text.now (prev_of c.args.text.now c.args.before) c.args.at c.args.count _ c.in_err-key.ensures

pub may_follow-requires : goal.may_follow-requires
may_follow-requires c = (c.requires.1, (key-further c.args.text.now start c.args.at c.args.count _ _ (omega arith) c.in_ok-key.ensures).1)

pub returns-then-may_follow : goal.returns-then-may_follow
returns-then-may_follow c = key-follows c.args.text.now (prev_of c.args.text.now c.args.before) c.args.at c.args.count c.in_ok-key.key.from c.in_ok-key.key.len c.in_ok-key.ensures (sym c.may_follow.ensures ∙ c.if-may_follow.true)

pub returns : goal.returns
returns c = ap (λ r. key_is c.args.text.now c.args.count (Err r)) c.refuse.ensures ∙ key-order c.args.text.now (prev_of c.args.text.now c.args.before) c.args.at c.args.count c.in_ok-key.key.from c.in_ok-key.key.len c.in_ok-key.ensures (sym c.may_follow.ensures ∙ c.if-may_follow.false)
