-- `torrent_metainfo::info::piece_length_under` meets its contract. Assumes nothing.
use Rattle.std.proofs.Common.{◌≡◌, Err, ℕ, sym, ap, ◌∙◌, rules}
use Rattle.refusal.specs.Paper.{paper, refused, refusal}
use Rattle.torrent_metainfo.proofs.Sizing.{piece-good, piece-bad, piece-not}
use Rattle.torrent_metainfo.proofs.info.piece_length_under.Goals as goal

pub returns-in_err-n : goal.returns-in_err-n
returns-in_err-n c =
    let e : c.from_residual.result ≡ Err c.in_err-n.field-0.0 = search rules in
    λ d u t. ap paper e ∙ piece-not c.args.text.now d c.args.dictionary u c.args.sought t _ _ c.in_err-n.ensures

pub returns-then-legal_piece_length : goal.returns-then-legal_piece_length
returns-then-legal_piece_length c = λ d u t. piece-good c.args.text.now d c.args.dictionary u c.args.sought t c.in_ok-n.n c.in_ok-n.ensures (sym c.legal_piece_length.ensures ∙ c.if-legal_piece_length.true)

pub returns-else-legal_piece_length : goal.returns-else-legal_piece_length
returns-else-legal_piece_length c = λ d u t. ap refusal c.refuse.ensures ∙ ap (λ (x : ℕ). refused 11 x) c.value.ensures ∙ piece-bad c.args.text.now d c.args.dictionary u c.args.sought t c.in_ok-n.n c.in_ok-n.ensures (sym c.legal_piece_length.ensures ∙ c.if-legal_piece_length.false)
