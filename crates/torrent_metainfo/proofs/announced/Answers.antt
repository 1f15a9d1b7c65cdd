-- `torrent_metainfo::announced` meets its contract. Assumes nothing.
use Rattle.std.proofs.Common.{◌≡◌, Err, ℕ, ap, ◌∙◌, rules}
use Rattle.refusal.specs.Paper.{paper}
use Rattle.bencode_fields.specs.Looks.{sought_from}
use Rattle.torrent_metainfo.specs.Keys.{info_key}
use Rattle.torrent_metainfo.proofs.Informing.{top-announce, top-info, top_read}
use Rattle.torrent_metainfo.proofs.announced.Goals as goal

pub returns : goal.returns
returns c = λ d before es l t e. top_read c.args.text.now d before es l c.args.first t e c.seek-announce.result c.seek-info.result c.seek-announce.ensures (c.seek-info.ensures ∙ ap (λ (q : ℕ). sought_from c.args.text.now q info_key) c.stop.ensures) c.in_ok-a.a c.in_ok-a.ensures c.in_ok-inside.inside c.in_ok-inside.ensures c.value.result c.value.ensures _ (λ f ws k u g. c.read.ensures f ws k u g)

pub returns-in_err-inside : goal.returns-in_err-inside
returns-in_err-inside c =
    let x : c.from_residual-in_err-inside.result ≡ Err c.in_err-inside.field-0.0 = search rules in
    λ d before es l t e. ap paper x ∙ top-info c.args.text.now d before es l c.args.first t e c.seek-announce.result c.seek-info.result c.seek-announce.ensures (c.seek-info.ensures ∙ ap (λ (q : ℕ). sought_from c.args.text.now q info_key) c.stop.ensures) c.in_ok-a.a c.in_ok-a.ensures _ _ c.in_err-inside.ensures

pub returns-in_err-a : goal.returns-in_err-a
returns-in_err-a c =
    let x : c.from_residual.result ≡ Err c.in_err-a.field-0.0 = search rules in
    λ d before es l t e. ap paper x ∙ top-announce c.args.text.now d before es l c.args.first t e c.seek-announce.result c.seek-info.result c.seek-announce.ensures (c.seek-info.ensures ∙ ap (λ (q : ℕ). sought_from c.args.text.now q info_key) c.stop.ensures) _ _ c.in_err-a.ensures
