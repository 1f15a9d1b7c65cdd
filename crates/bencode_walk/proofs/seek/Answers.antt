-- `bencode_walk::seek` meets its contract. Assumes nothing.
use Rattle.std.specs.Prelude.{◌≡◌, Ok, Err}
use Rattle.std.proofs.Common.{sym, ap, ◌∙◌, arith, rules}
use Rattle.bencode_walk.specs.Walk.{entry_paper, seek_paper}
use Rattle.bencode_walk.proofs.Seeking.{before-by, same_by, after-by, seeking-start, seek-close, seek-not, seek_found, seek-passed, seek-unread, seek-more}
use Rattle.bencode_walk.proofs.seek.Goals as goal

pub loop-k-init : goal.loop-k-init
loop-k-init c = seeking-start _ _ _

pub loop-k-smaller : goal.loop-k-smaller
loop-k-smaller c = let x = seek-more c.args.text.now c.args.key.now c.args.at c.loop-k.p c.loop-k.invariant c.in-Key.k c.in-Key.value (ap (λ n. entry_paper (Ok n)) (sym c.in-Key.is) ∙ c.in_ok-k.ensures) _ c.bytes-here.ensures.same (before-by _ _ (sym c.precedes.ensures ∙ c.if-precedes.true)) _ c.in_ok-p-in-Key.ensures in omega (arith, x.0, x.1)

pub loop-k-preserved : goal.loop-k-preserved
loop-k-preserved c = (seek-more c.args.text.now c.args.key.now c.args.at c.loop-k.p c.loop-k.invariant c.in-Key.k c.in-Key.value (ap (λ n. entry_paper (Ok n)) (sym c.in-Key.is) ∙ c.in_ok-k.ensures) _ c.bytes-here.ensures.same (before-by _ _ (sym c.precedes.ensures ∙ c.if-precedes.true)) _ c.in_ok-p-in-Key.ensures).2

pub returns-in_err-p-in-Key : goal.returns-in_err-p-in-Key
returns-in_err-p-in-Key c =
    let e : c.from_residual-in_err-p-in-Key.result ≡ Err c.in_err-p-in-Key.field-0.0 = search rules in
    ap seek_paper e ∙ seek-unread c.args.text.now c.args.key.now c.args.at c.loop-k.p c.loop-k.invariant c.in-Key.k c.in-Key.value (ap (λ n. entry_paper (Ok n)) (sym c.in-Key.is) ∙ c.in_ok-k.ensures) _ c.bytes-here.ensures.same (before-by _ _ (sym c.precedes.ensures ∙ c.if-precedes.true)) _ c.in_err-p-in-Key.ensures

pub returns-then-eq : goal.returns-then-eq
returns-then-eq c = seek_found c.args.text.now c.args.key.now c.args.at c.loop-k.p c.loop-k.invariant c.in-Key.k c.in-Key.value (ap (λ n. entry_paper (Ok n)) (sym c.in-Key.is) ∙ c.in_ok-k.ensures) _ c.bytes-here.ensures.same (same_by c.bytes-here.result.now c.args.key.now c.eq.ensures c.if-eq.true)

pub returns-else-eq : goal.returns-else-eq
returns-else-eq c = seek-passed c.args.text.now c.args.key.now c.args.at c.loop-k.p c.loop-k.invariant c.in-Key.k c.in-Key.value (ap (λ n. entry_paper (Ok n)) (sym c.in-Key.is) ∙ c.in_ok-k.ensures) _ c.bytes-here.ensures.same (after-by c.bytes-here.result.now c.args.key.now (sym c.precedes.ensures ∙ c.if-precedes.false) c.eq.ensures c.if-eq.false)

pub returns-in-Close : goal.returns-in-Close
returns-in-Close c = seek-close c.args.text.now c.args.key.now c.args.at c.loop-k.p c.loop-k.invariant _ (ap (λ n. entry_paper (Ok n)) (sym c.in-Close.is) ∙ c.in_ok-k.ensures)

pub returns-in_err-k : goal.returns-in_err-k
returns-in_err-k c =
    let e : c.from_residual.result ≡ Err c.in_err-k.field-0.0 = search rules in
    ap seek_paper e ∙ seek-not c.args.text.now c.args.key.now c.args.at c.loop-k.p c.loop-k.invariant c.in_err-k.field-0.0 c.in_err-k.ensures
