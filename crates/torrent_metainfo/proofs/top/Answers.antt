-- `torrent_metainfo::top` meets its contract. Assumes nothing.
use Rattle.std.proofs.Common.{◌≡◌, Err, ap, ◌∙◌, rules}
use Rattle.refusal.specs.Paper.{paper}
use Rattle.torrent_metainfo.proofs.Informing.{whole-not, whole_with}
use Rattle.torrent_metainfo.proofs.top.Goals as goal

pub returns-in_err-first : goal.returns-in_err-first
returns-in_err-first c =
    let e : c.from_residual.result ≡ Err c.in_err-first.field-0.0 = search rules in
    λ v f. ap paper e ∙ whole-not c.args.text.now v f _ _ c.in_err-first.ensures

pub returns : goal.returns
returns c = λ v f. whole_with c.args.text.now v f c.in_ok-first.first c.in_ok-first.ensures _ (λ d before es l t e. c.announced.ensures d before es l t e)
