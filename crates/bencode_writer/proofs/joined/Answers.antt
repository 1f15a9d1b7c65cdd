-- `bencode_writer::joined` meets its contract: where there is room, the four stores are one run of stores. Assumes nothing.
use Rattle.std.proofs.Common.{arith, ap, Err, ◌∙◌}
use Rattle.bencode_scalar.specs.Written.{decimal}
use Rattle.bencode_scalar.proofs.Forms.{passed_on}
use Rattle.bencode_writer.proofs.Laws.{put-done, put-nothing}
use Rattle.bencode_writer.proofs.Stores.{length-joined, joined-stores}
use Rattle.bencode_writer.proofs.joined.Goals as goal

pub returns-in_err-fits : goal.returns-in_err-fits
returns-in_err-fits c =
    let a = c.args in
    let e = c.in_err-fits.ensures in
    put-nothing _ _ _ (omega (arith, e.0, length-joined a.before.now (decimal a.n) a.mark a.after.now)) (passed_on _ _ c.from_residual.ensures.1 ∙ ap Err e.1)

pub returns : goal.returns
returns c =
    let a = c.args in
    let first = c.store-start.ensures in
    let second = c.store_decimal-end.ensures in
    let third = c.store.ensures in
    let l = length-joined a.before.now (decimal a.n) a.mark a.after.now in
    let f = c.in_ok-fits.ensures in
    put-done _ _ _ (omega (arith, f)) (omega (arith, third.place, second.place, first.place, c.digits-count.ensures.0))
    (third.out ∙ joined-stores a.before.now (decimal a.n) a.mark a.after.now a.out.now a.at first.place first.out second.place second.out)
