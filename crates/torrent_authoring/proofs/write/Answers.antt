-- `torrent_authoring::write` meets its contract. Assumes nothing.
use Rattle.std.proofs.Common.{◌≡◌, Err, ap, ◌∙◌, arith, rules}
use Rattle.refusal.specs.Paper.{paper}
use Rattle.bencode_writer.specs.Put.{left}
use Rattle.torrent_authoring.proofs.Steps.{size_is, write-not, write-none, write-whole}
use Rattle.torrent_authoring.proofs.write.Goals as goal

pub returns-in_err-n : goal.returns-in_err-n
returns-in_err-n c =
    let a = c.args in
    let e : c.from_residual.result ≡ Err c.in_err-n.field-0.0 = search rules in
    ap (λ r. left (paper r) a.out.now) e ∙ write-not _ a.out.now _ _ c.in_err-n.ensures

pub returns-then-out-n : goal.returns-then-out-n
returns-then-out-n c = write-none _ c.args.out.now _ c.in_ok-n.ensures (omega arith) (ap Err c.refuse.ensures)

pub put_all-requires : goal.put_all-requires
put_all-requires c = omega (arith, size_is _ _ c.in_ok-n.ensures)

pub returns : goal.returns
returns c = write-whole _ c.args.out.now _ c.in_ok-n.ensures (omega arith) c.put_all.ensures
