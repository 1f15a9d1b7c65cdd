-- `check_byte` meets its contract. Assumes nothing.
use Rattle.std.proofs.Common.{◌≡◌, sym, ap, ◌∙◌, ◌/◌, arith}
use Rattle.yard_hearing.proofs.Passing.{nothing-new, checked-skip, checked-le, checked-turn}
use Rattle.yard_hearing.specs.Passes.{checked}
use Rattle.yard_hearing.specs.declared.row.News.{News}
use Rattle.yard_hearing.proofs.row.check_byte.Goals as goal

pub returns-then-new-eq0 : goal.returns-then-new-eq0
returns-then-new-eq0 c =
    let a = c.args in
    c.requires.7 ∙ sym (checked-skip a.rows.now a.at a.said.now a.holders.now a.top a.p a.end c.requires.3 (λ q l m. nothing-new a.rows.now a.at a.said.now q (a.p / 8) _ (omega arith) c.new_bits-new.ensures c.if-new-eq0.true))

pub note-news-requires : goal.note-news-requires
note-news-requires c = omega (arith, ap (λ (x : News). x.added) c.loop-q.invariant, checked-le c.args.rows.now c.args.at c.args.said.now c.args.holders.now c.args.top c.loop-q.q)

pub loop-q-preserved : goal.loop-q-preserved
loop-q-preserved c =
    let a = c.args in
    checked-turn a.rows.now a.at a.said.now a.holders.now a.top (a.p / 8) c.loop-q.q _ _ _ _ (omega arith) c.new_bits-new.ensures c.loop-q.invariant c.bit_of.ensures c.note-news.ensures

pub returns : goal.returns
returns c =
    let e : c.loop-q.q ≡ c.args.end = omega arith in
    c.loop-q.invariant ∙ ap (checked c.args.rows.now c.args.at c.args.said.now c.args.holders.now c.args.top) e
