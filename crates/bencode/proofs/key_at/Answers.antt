-- `bencode::key_at` meets its contract. Assumes nothing.
use Rattle.std.proofs.Common.{sym, ap, ◌∙◌, ◌+◌, arith, refl}
use Rattle.std.specs.Prelude.{Err}
use Rattle.bencode.specs.Value.{start}
use Rattle.bencode.specs.Answers.{key_is}
use Rattle.bencode.proofs.Turns.{key-wrong, key-many, key-read, key-found}
use Rattle.bencode.proofs.key_at.Goals as goal

pub returns-then-count-ge-VALUES : goal.returns-then-count-ge-VALUES
returns-then-count-ge-VALUES c = ap (λ r. key_is c.args.text.now c.args.count (Err r)) c.refuse.ensures ∙ key-many c.args.text.now start c.args.at c.args.count c.requires (sym c.digit.ensures ∙ c.if-digit.true) (omega arith)

pub returns-then-few-lt100 : goal.returns-then-few-lt100
returns-then-few-lt100 c = key-found c.args.text.now start c.args.at c.args.count c.requires (sym c.digit.ensures ∙ c.if-digit.true) (omega arith) (c.args.at + 2) c.one_digit-few.result (c.one_digit-few.ensures (c.args.count + 1) c.if-few-lt100.true) refl

pub returns-then-some-lt100 : goal.returns-then-some-lt100
returns-then-some-lt100 c = key-found c.args.text.now start c.args.at c.args.count c.requires (sym c.digit.ensures ∙ c.if-digit.true) (omega arith) (c.args.at + 3) c.two_digits-some.result (c.two_digits-some.ensures (c.args.count + 1) c.if-some-lt100.true) refl

pub returns-then-digit : goal.returns-then-digit
returns-then-digit c = key-read c.args.text.now c.args.at c.args.count c.requires (sym c.digit.ensures ∙ c.if-digit.true) (omega arith) c.string.result (c.string.ensures (c.args.count + 1))

pub returns : goal.returns
returns c = ap (λ r. key_is c.args.text.now c.args.count (Err r)) c.refuse-2.ensures ∙ key-wrong c.args.text.now start c.args.at c.args.count c.requires (sym c.digit.ensures ∙ c.if-digit.false)
