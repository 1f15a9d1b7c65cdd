-- `torrent_metainfo::names::path_at` meets its contract. Assumes nothing.
use Rattle.std.proofs.Common.{◌≡◌, Err, sym, ap, ◌∙◌, rules}
use Rattle.refusal.specs.Paper.{paper, refusal}
use Rattle.torrent_metainfo.proofs.Naming.{path-not, path_empty, path-some}
use Rattle.torrent_metainfo.proofs.names.path_at.Goals as goal

pub returns-in_err-first : goal.returns-in_err-first
returns-in_err-first c =
    let e : c.from_residual.result ≡ Err c.in_err-first.field-0.0 = search rules in
    λ d v t. ap paper e ∙ path-not c.args.text.now d c.args.at v t _ _ c.in_err-first.ensures

pub returns-then-ends : goal.returns-then-ends
returns-then-ends c = λ d v t. ap refusal c.refuse.ensures ∙ path_empty c.args.text.now d c.args.at c.in_ok-first.first c.in_ok-first.ensures v t (sym c.ends.ensures ∙ c.if-ends.true)

pub returns-in_err-past : goal.returns-in_err-past
returns-in_err-past c =
    let e : c.from_residual-in_err-past.result ≡ Err c.in_err-past.field-0.0 = search rules in
    λ d v t. ap paper e ∙ path-some c.args.text.now d c.args.at c.in_ok-first.first c.in_ok-first.ensures _ (λ e vs u. c.in_err-past.ensures e vs u) v t (sym c.ends.ensures ∙ c.if-ends.false)

pub returns : goal.returns
returns c = λ d v t. path-some c.args.text.now d c.args.at c.in_ok-first.first c.in_ok-first.ensures _ (λ e vs u. c.in_ok-past.ensures e vs u) v t (sym c.ends.ensures ∙ c.if-ends.false)
