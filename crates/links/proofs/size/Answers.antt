-- `links::size` meets its contract. Assumes nothing.
use Rattle.std.specs.Prelude.{◌≡◌, Err}
use Rattle.std.proofs.Common.{sym, ap, ◌∙◌, length, rules}
use Rattle.refusal.specs.Paper.{paper, map}
use Rattle.links.proofs.Answers.{written_read, written-refused}
use Rattle.links.proofs.size.Goals as goal

pub measured-requires : goal.measured-requires
measured-requires c = sym c.in_ok-t.ensures

pub returns-in_err-t : goal.returns-in_err-t
returns-in_err-t c =
    let e : c.from_residual.result ≡ Err c.in_err-t.field-0.0 = search rules in
    ap paper e ∙ ap (map length) (written-refused c.args.torrent.now _ _ (sym c.in_err-t.ensures))

pub returns : goal.returns
returns c = c.measured.ensures ∙ ap (map length) (written_read c.args.torrent.now _ (sym c.in_ok-t.ensures))
