-- `torrent_metainfo::keys::close` meets its contract. Assumes nothing.
use Rattle.std.proofs.Common.{◌≡◌, Ok, Err, sym, ap, ◌∙◌, arith, rules}
use Rattle.refusal.specs.Paper.{paper}
use Rattle.bencode_walk.specs.Walk.{entry_paper}
use Rattle.torrent_metainfo.proofs.Closing.{entry-further, closing_end, closing-not, closing-bad, closing-more}
use Rattle.torrent_metainfo.proofs.keys.close.Goals as goal

pub loop-value-smaller : goal.loop-value-smaller
loop-value-smaller c = let x = entry-further c.args.text.now c.loop-value.p c.in-Key.field-0.from c.in-Key.field-0.len c.in-Key.value _ (ap (λ n. entry_paper (Ok n)) (sym c.in-Key.is) ∙ c.in_ok-value.ensures) c.in_ok-p-in-Key.ensures in omega (arith, x.0, x.1)

pub loop-value-preserved : goal.loop-value-preserved
loop-value-preserved c = closing-more c.args.text.now c.args.from c.loop-value.p c.loop-value.invariant c.in-Key.field-0.from c.in-Key.field-0.len c.in-Key.value (ap (λ n. entry_paper (Ok n)) (sym c.in-Key.is) ∙ c.in_ok-value.ensures) _ c.in_ok-p-in-Key.ensures

pub returns-in_err-p-in-Key : goal.returns-in_err-p-in-Key
returns-in_err-p-in-Key c =
    let e : c.from_residual-in_err-p-in-Key.result ≡ Err c.in_err-p-in-Key.field-0.0 = search rules in
    λ d b es t u. ap paper e ∙ closing-bad c.args.text.now c.args.from c.loop-value.p c.loop-value.invariant c.in-Key.field-0.from c.in-Key.field-0.len c.in-Key.value (ap (λ n. entry_paper (Ok n)) (sym c.in-Key.is) ∙ c.in_ok-value.ensures) _ _ c.in_err-p-in-Key.ensures d b es t u

pub returns-in-Close : goal.returns-in-Close
returns-in-Close c = closing_end c.args.text.now c.args.from c.loop-value.p c.loop-value.invariant c.in-Close.past (ap (λ n. entry_paper (Ok n)) (sym c.in-Close.is) ∙ c.in_ok-value.ensures)

pub returns-in_err-value : goal.returns-in_err-value
returns-in_err-value c =
    let e : c.from_residual.result ≡ Err c.in_err-value.field-0.0 = search rules in
    λ d b es t u. ap paper e ∙ closing-not c.args.text.now c.args.from c.loop-value.p c.loop-value.invariant _ _ c.in_err-value.ensures d b es t u
