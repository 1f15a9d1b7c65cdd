-- `torrent_metainfo::file_at` meets its contract. Assumes nothing.
use Rattle.std.proofs.Common.{◌≡◌, Err, ap, ◌∙◌, rules}
use Rattle.refusal.specs.Paper.{paper}
use Rattle.torrent_metainfo.proofs.Filing.{value-bad, file-past}
use Rattle.torrent_metainfo.proofs.file_at.Goals as goal

pub returns-in_err-skip : goal.returns-in_err-skip
returns-in_err-skip c =
    let e : c.from_residual.result ≡ Err c.in_err-skip.field-0.0 = search rules in
    ap paper e ∙ value-bad c.args.text.now c.args.at _ _ c.in_err-skip.ensures

pub returns : goal.returns
returns c = file-past c.args.text.now c.args.at _ c.in_ok-skip.ensures _ (λ d v l t. c.file.ensures d v l t)
