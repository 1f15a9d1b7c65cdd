-- `torrent_metainfo::files::listed` meets its contract. Assumes nothing.
use Rattle.std.proofs.Common.{◌≡◌, Err, sym, ap, ◌∙◌, arith, rules}
use Rattle.refusal.specs.Paper.{paper}
use Rattle.torrent_metainfo.proofs.Filing.{many-not, many-with, listing-out, listing-end, listing-not, listing-more}
use Rattle.torrent_metainfo.proofs.files.listed.Goals as goal

pub returns-in_err-first : goal.returns-in_err-first
returns-in_err-first c =
    let e : c.from_residual.result ≡ Err c.in_err-first.field-0.0 = search rules in
    λ d v l t. ap paper e ∙ many-not c.args.text.now c.args.place d v t _ _ c.in_err-first.ensures

pub returns-then-ends : goal.returns-then-ends
returns-then-ends c = λ d v l t. many-with c.args.text.now c.args.place d v l t c.in_ok-first.first c.in_ok-first.ensures _ (listing-end c.args.text.now c.args.place c.in_ok-first.first c.loop-files.p c.loop-files.files c.loop-files.total.0 c.loop-files.invariant.1 c.loop-files.invariant.0 (sym c.ends.ensures ∙ c.if-ends.true))

pub returns-in_err-f : goal.returns-in_err-f
returns-in_err-f c =
    let e : c.from_residual-in_err-f.result ≡ Err c.in_err-f.field-0.0 = search rules in
    λ d v l t. ap paper e ∙ many-with c.args.text.now c.args.place d v l t c.in_ok-first.first c.in_ok-first.ensures _ (listing-not c.args.text.now c.args.place c.in_ok-first.first c.loop-files.p c.loop-files.files c.loop-files.total.0 c.loop-files.invariant.1 (sym c.ends.ensures ∙ c.if-ends.false) _ _ c.in_err-f.ensures)

pub loop-files-preserved : goal.loop-files-preserved
loop-files-preserved c = (omega (arith, c.with_file-total.ensures), listing-more c.args.text.now c.args.place c.in_ok-first.first c.loop-files.p c.loop-files.files c.loop-files.total.0 c.loop-files.invariant.1 (sym c.ends.ensures ∙ c.if-ends.false) c.in_ok-f.f c.in_ok-f.ensures c.with_file-total.result.0 c.with_file-total.ensures)

pub returns : goal.returns
returns c = λ d v l t. many-with c.args.text.now c.args.place d v l t c.in_ok-first.first c.in_ok-first.ensures _ (λ e vs k u. listing-out c.args.text.now c.args.place c.in_ok-first.first c.loop-files.p c.loop-files.files c.loop-files.total.0 c.loop-files.invariant.1 (omega arith) e vs k u)
