-- How the cycle of an item, a list and a dictionary meets its contracts. Assumes nothing.
use mathlib.Core.Path.{sym, ap, ◌∙◌}
use native.Mathlib.Omega.{arith}
use Rattle.std.proofs.Common.{◌+◌}
use Rattle.bencode.specs.Answers.{step_of, prev_of, key_is}
use Rattle.bencode.proofs.Turns.{told-on, told-off, value-inside, kind-L, kind-open, kind-opens, value_out, value-wrong, value-many, value-deep, value-int, value-str, value-list, value-dict, list-start, list_close, list-bad, list-out, list-more, dict-start, dict-close, dict-out, dict-not, dict-bad, dict-more, key-further}
use Rattle.bencode.proofs.+dictionary_inner_list.Goals as goal

pub dictionary-loop-at-init : goal.dictionary-loop-at-init
dictionary-loop-at-init t c = dict-start _ _ _ _

pub dictionary-returns-then-text-at-eq101 : goal.dictionary-returns-then-text-at-eq101
dictionary-returns-then-text-at-eq101 t c = c.past.ensures (omega arith) ∙ dict-close c.args.text.now c.args.levels c.args.from c.args.others c.loop-at.at c.loop-at.count c.loop-at.before c.loop-at.invariant (omega arith) (omega arith)

pub dictionary-overflow_add-at-in-Ok : goal.dictionary-overflow_add-at-in-Ok
dictionary-overflow_add-at-in-Ok t c = omega (arith, key-further c.args.text.now (prev_of c.args.text.now c.loop-at.before) c.loop-at.at c.loop-at.count c.in-Ok.key.from c.in-Ok.key.len (omega arith) (ap (key_is c.args.text.now c.loop-at.count) (sym c.in-Ok.is) ∙ c.next_key.ensures))

pub dictionary-overflow_add-count : goal.dictionary-overflow_add-count
dictionary-overflow_add-count t c = omega (arith, key-further c.args.text.now (prev_of c.args.text.now c.loop-at.before) c.loop-at.at c.loop-at.count c.in-Ok.key.from c.in-Ok.key.len (omega arith) (ap (key_is c.args.text.now c.loop-at.count) (sym c.in-Ok.is) ∙ c.next_key.ensures))

pub dictionary-loop-at-smaller-then-end-ne0 : goal.dictionary-loop-at-smaller-then-end-ne0
dictionary-loop-at-smaller-then-end-ne0 t c = omega (arith, (dict-more c.args.text.now c.args.levels c.args.from c.args.others c.loop-at.at c.loop-at.count c.loop-at.before c.loop-at.invariant (omega arith) c.if-text-at-eq101.false c.in-Ok.key.from c.in-Ok.key.len (ap (key_is c.args.text.now c.loop-at.count) (sym c.in-Ok.is) ∙ c.next_key.ensures) (record { at = c.leaf-end.result; count = c.loop-at.count + 1 + 1 }) ((c.leaf-end.ensures c.if-end-ne0.true).1 c.args.levels)).0)

pub dictionary-loop-at-preserved-then-end-ne0 : goal.dictionary-loop-at-preserved-then-end-ne0
dictionary-loop-at-preserved-then-end-ne0 t c = (dict-more c.args.text.now c.args.levels c.args.from c.args.others c.loop-at.at c.loop-at.count c.loop-at.before c.loop-at.invariant (omega arith) c.if-text-at-eq101.false c.in-Ok.key.from c.in-Ok.key.len (ap (key_is c.args.text.now c.loop-at.count) (sym c.in-Ok.is) ∙ c.next_key.ensures) (record { at = c.leaf-end.result; count = c.loop-at.count + 1 + 1 }) ((c.leaf-end.ensures c.if-end-ne0.true).1 c.args.levels)).1

pub dictionary-returns-then-end-ge9223372036854775808 : goal.dictionary-returns-then-end-ge9223372036854775808
dictionary-returns-then-end-ge9223372036854775808 t c = told-off _ _ (omega arith) c.inner-end.ensures (dict-bad c.args.text.now c.args.levels c.args.from c.args.others c.loop-at.at c.loop-at.count c.loop-at.before c.loop-at.invariant (omega arith) c.if-text-at-eq101.false c.in-Ok.key.from c.in-Ok.key.len (ap (key_is c.args.text.now c.loop-at.count) (sym c.in-Ok.is) ∙ c.next_key.ensures))

pub dictionary-loop-at-smaller : goal.dictionary-loop-at-smaller
dictionary-loop-at-smaller t c = omega (arith, (dict-more c.args.text.now c.args.levels c.args.from c.args.others c.loop-at.at c.loop-at.count c.loop-at.before c.loop-at.invariant (omega arith) c.if-text-at-eq101.false c.in-Ok.key.from c.in-Ok.key.len (ap (key_is c.args.text.now c.loop-at.count) (sym c.in-Ok.is) ∙ c.next_key.ensures) _ (told-on (omega arith) c.inner-end.ensures)).0)

pub dictionary-loop-at-preserved : goal.dictionary-loop-at-preserved
dictionary-loop-at-preserved t c = (dict-more c.args.text.now c.args.levels c.args.from c.args.others c.loop-at.at c.loop-at.count c.loop-at.before c.loop-at.invariant (omega arith) c.if-text-at-eq101.false c.in-Ok.key.from c.in-Ok.key.len (ap (key_is c.args.text.now c.loop-at.count) (sym c.in-Ok.is) ∙ c.next_key.ensures) _ (told-on (omega arith) c.inner-end.ensures)).1

pub dictionary-returns-in-Err : goal.dictionary-returns-in-Err
dictionary-returns-in-Err t c = c.fail.ensures ∙ dict-not c.args.text.now c.args.levels c.args.from c.args.others c.loop-at.at c.loop-at.count c.loop-at.before c.loop-at.invariant (omega arith) c.if-text-at-eq101.false _ (ap (key_is c.args.text.now c.loop-at.count) (sym c.in-Err.is) ∙ c.next_key.ensures)

pub dictionary-returns : goal.dictionary-returns
dictionary-returns t c = c.fail-2.ensures ∙ dict-out c.args.text.now c.args.levels c.args.from c.args.others c.loop-at.at c.loop-at.count c.loop-at.before c.loop-at.invariant (omega arith)

pub inner-returns-then-text-at : goal.inner-returns-then-text-at
inner-returns-then-text-at t c = c.fail.ensures ∙ ap step_of (sym (value_out c.args.text.now c.args.at c.args.count c.args.levels (omega arith)))

pub inner-returns-then-count-ge-VALUES : goal.inner-returns-then-count-ge-VALUES
inner-returns-then-count-ge-VALUES t c = c.fail-then-count-ge-VALUES.ensures ∙ ap step_of (sym (value-many c.args.text.now c.args.at c.args.count (omega arith) c.args.levels (sym c.begins.ensures ∙ c.if-begins.true) (omega arith)))

pub inner-returns-then-b-eq105 : goal.inner-returns-then-b-eq105
inner-returns-then-b-eq105 t c = let e = c.integer.ensures ∙ value-int c.args.text.now c.args.at c.args.count (omega arith) c.args.levels c.if-b-eq105.true (omega arith) in c.tell.ensures (value-inside c.args.text.now c.args.levels c.args.at c.args.count (omega arith) (omega arith) _ e) ∙ e

pub inner-returns-then-digit : goal.inner-returns-then-digit
inner-returns-then-digit t c = let e = c.string.ensures ∙ value-str c.args.text.now c.args.at c.args.count (omega arith) c.args.levels (sym c.digit.ensures ∙ c.if-digit.true) (omega arith) in c.tell-then-digit.ensures (value-inside c.args.text.now c.args.levels c.args.at c.args.count (omega arith) (omega arith) _ e) ∙ e

pub inner-returns-then-levels-eq0 : goal.inner-returns-then-levels-eq0
inner-returns-then-levels-eq0 t c = c.fail-then-levels-eq0.ensures ∙ ap step_of (sym (value-deep c.args.text.now c.args.at c.args.count (omega arith) c.args.levels (omega arith) (kind-opens _ (sym c.begins.ensures ∙ c.if-begins.true) c.if-b-eq105.false (sym c.digit.ensures ∙ c.if-digit.false)) (omega arith)))

pub inner-returns-then-b-eq108 : goal.inner-returns-then-b-eq108
inner-returns-then-b-eq108 t c = c.list.ensures ∙ value-list c.args.text.now c.args.at c.args.count (omega arith) c.args.levels c.if-levels-eq0.false (kind-L _ c.if-b-eq108.true) (omega arith)

pub inner-returns-then-begins : goal.inner-returns-then-begins
inner-returns-then-begins t c = c.dictionary.ensures ∙ value-dict c.args.text.now c.args.at c.args.count (omega arith) c.args.levels c.if-levels-eq0.false (kind-open _ (sym c.begins.ensures ∙ c.if-begins.true) c.if-b-eq105.false (sym c.digit.ensures ∙ c.if-digit.false) c.if-b-eq108.false) (omega arith)

pub inner-returns : goal.inner-returns
inner-returns t c = c.fail-2.ensures ∙ ap step_of (sym (value-wrong c.args.text.now c.args.at c.args.count (omega arith) c.args.levels (sym c.begins.ensures ∙ c.if-begins.false)))

pub list-loop-at-init : goal.list-loop-at-init
list-loop-at-init t c = list-start _ _ _ _

pub list-returns-then-text-at-eq101 : goal.list-returns-then-text-at-eq101
list-returns-then-text-at-eq101 t c = c.past.ensures (omega arith) ∙ list_close c.args.text.now c.args.levels c.args.from c.args.others c.loop-at.at c.loop-at.count c.loop-at.invariant (omega arith) (omega arith)

pub list-loop-at-smaller-then-end-ne0 : goal.list-loop-at-smaller-then-end-ne0
list-loop-at-smaller-then-end-ne0 t c = omega (arith, (list-more c.args.text.now c.args.levels c.args.from c.args.others c.loop-at.at c.loop-at.count c.loop-at.invariant (omega arith) c.if-text-at-eq101.false (record { at = c.leaf-end.result; count = c.loop-at.count + 1 }) ((c.leaf-end.ensures c.if-end-ne0.true).1 c.args.levels)).0)

pub list-loop-at-preserved-then-end-ne0 : goal.list-loop-at-preserved-then-end-ne0
list-loop-at-preserved-then-end-ne0 t c = (list-more c.args.text.now c.args.levels c.args.from c.args.others c.loop-at.at c.loop-at.count c.loop-at.invariant (omega arith) c.if-text-at-eq101.false (record { at = c.leaf-end.result; count = c.loop-at.count + 1 }) ((c.leaf-end.ensures c.if-end-ne0.true).1 c.args.levels)).1

pub list-returns-then-end-ge9223372036854775808 : goal.list-returns-then-end-ge9223372036854775808
list-returns-then-end-ge9223372036854775808 t c = told-off _ _ (omega arith) c.inner-end.ensures (λ b. list-bad c.args.text.now c.args.levels c.args.from c.args.others c.loop-at.at c.loop-at.count c.loop-at.invariant b (omega arith) c.if-text-at-eq101.false)

pub list-loop-at-smaller : goal.list-loop-at-smaller
list-loop-at-smaller t c = omega (arith, (list-more c.args.text.now c.args.levels c.args.from c.args.others c.loop-at.at c.loop-at.count c.loop-at.invariant (omega arith) c.if-text-at-eq101.false _ (told-on (omega arith) c.inner-end.ensures)).0)

pub list-loop-at-preserved : goal.list-loop-at-preserved
list-loop-at-preserved t c = (list-more c.args.text.now c.args.levels c.args.from c.args.others c.loop-at.at c.loop-at.count c.loop-at.invariant (omega arith) c.if-text-at-eq101.false _ (told-on (omega arith) c.inner-end.ensures)).1

pub list-returns : goal.list-returns
list-returns t c = c.fail.ensures ∙ list-out c.args.text.now c.args.levels c.args.from c.args.others c.loop-at.at c.loop-at.count c.loop-at.invariant (omega arith)
