-- `torrent_contents::pieces::check` meets its contract. Assumes nothing.
use Rattle.std.specs.Prelude.{◌≡◌, Err}
use Rattle.std.proofs.Common.{ap, ◌∙◌, arith, rules}
use Rattle.refusal.specs.Paper.{paper}
use Rattle.torrent_contents.proofs.Hashing.{check-agreed}
use Rattle.torrent_contents.proofs.pieces.check.Goals as goal

pub returns-in_err-same : goal.returns-in_err-same
returns-in_err-same c =
    let e : c.from_residual-in_err-same.result ≡ Err c.in_err-same.field-0.0 = search rules in
    ap paper e ∙ c.in_err-same.ensures ∙ check-agreed c.args.text.now c.args.piece.0 c.args.bytes.now c.args.t c.in_ok-part.part c.in_ok-part.ensures (omega arith) c.piece_bytes-size.result c.piece_bytes-size.ensures c.if-bytes-size.false _ c.bytes.ensures.same

pub returns : goal.returns
returns c = c.in_ok-same.ensures ∙ check-agreed c.args.text.now c.args.piece.0 c.args.bytes.now c.args.t c.in_ok-part.part c.in_ok-part.ensures (omega arith) c.piece_bytes-size.result c.piece_bytes-size.ensures c.if-bytes-size.false _ c.bytes.ensures.same
