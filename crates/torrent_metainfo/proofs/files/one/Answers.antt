-- `torrent_metainfo::files::one` meets its contract. Assumes nothing.
use Rattle.std.proofs.Common.{◌≡◌, Err, ap, ◌∙◌, arith, rules}
use Rattle.refusal.specs.Paper.{paper, map}
use Rattle.refusal.specs.Limits.{longest_file}
use Rattle.bencode_fields.proofs.Standing.{natural-is}
use Rattle.torrent_metainfo.specs.Rules.{one_file}
use Rattle.torrent_metainfo.proofs.files.one.Goals as goal

pub returns-in_err-total : goal.returns-in_err-total
returns-in_err-total c =
    let e : c.from_residual.result ≡ Err c.in_err-total.field-0.0 = search rules in
    λ d v t. ap paper e ∙ ap (map (one_file c.args.at)) (c.in_err-total.ensures ∙ natural-is c.args.text.now d c.args.at longest_file (omega arith) v t)

pub returns : goal.returns
returns c = λ d v t. ap (map (one_file c.args.at)) (c.in_ok-total.ensures ∙ natural-is c.args.text.now d c.args.at longest_file (omega arith) v t)
