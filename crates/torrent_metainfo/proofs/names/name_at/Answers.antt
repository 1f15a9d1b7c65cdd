-- `torrent_metainfo::names::name_at` meets its contract. Assumes nothing.
use Rattle.std.proofs.Common.{◌≡◌, Err, sym, ap, ◌∙◌, rules}
use Rattle.refusal.specs.Paper.{paper, refusal}
use Rattle.torrent_metainfo.specs.Rules.{good_name}
use Rattle.torrent_metainfo.proofs.Naming.{name_by, name-not}
use Rattle.torrent_metainfo.proofs.names.name_at.Goals as goal

pub returns-in_err-part : goal.returns-in_err-part
returns-in_err-part c =
    let e : c.from_residual.result ≡ Err c.in_err-part.field-0.0 = search rules in
    λ d v t. ap paper e ∙ name-not c.args.text.now d c.args.at v t _ _ c.in_err-part.ensures

pub returns-then-is_good : goal.returns-then-is_good
returns-then-is_good c = λ d v t. name_by c.args.text.now d c.args.at v t c.in_ok-part.part c.in_ok-part.ensures (sym (c.is_good.ensures ∙ ap good_name c.bytes.ensures.same) ∙ c.if-is_good.true)

pub returns-else-is_good : goal.returns-else-is_good
returns-else-is_good c = λ d v t. ap refusal c.refuse.ensures ∙ name_by c.args.text.now d c.args.at v t c.in_ok-part.part c.in_ok-part.ensures (sym (c.is_good.ensures ∙ ap good_name c.bytes.ensures.same) ∙ c.if-is_good.false)
