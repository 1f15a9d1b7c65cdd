-- `links::write` meets its contract. Assumes nothing.
use Rattle.std.specs.Prelude.{◌≡◌, Err}
use Rattle.std.proofs.Common.{sym, ap, ◌∙◌, rules}
use Rattle.refusal.specs.Paper.{paper}
use Rattle.bencode_writer.specs.Put.{left, puts}
use Rattle.links.proofs.Answers.{written_read, written-refused}
use Rattle.links.proofs.write.Goals as goal

pub written-requires : goal.written-requires
written-requires c = sym c.in_ok-t.ensures

pub returns-in_err-t : goal.returns-in_err-t
returns-in_err-t c =
    let e : c.from_residual.result ≡ Err c.in_err-t.field-0.0 = search rules in
    ap (λ r. left (paper r) c.args.out.now) e ∙ ap (puts c.args.out.now) (written-refused c.args.torrent.now _ _ (sym c.in_err-t.ensures))

pub returns : goal.returns
returns c = c.written.ensures ∙ ap (puts c.args.out.now) (written_read c.args.torrent.now _ (sym c.in_ok-t.ensures))
