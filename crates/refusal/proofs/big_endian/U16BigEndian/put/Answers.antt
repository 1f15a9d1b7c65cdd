-- `u16::put` meets its contract: std's bytes are these, copied to the place. Assumes nothing.
use mathlib.Core.Path.{◌≡◌, refl, sym, ◌∙◌}
use mathlib.Core.Bool.{true}
use native.Mathlib.Nat.{div-one}
use borrow.Author.Tests.{leb-true}
use lib.ListN.{length}
use Rattle.std.specs.Prelude.{◌+◌}
use Rattle.refusal.specs.BigEndian.{bytes_of, fits}
use Rattle.refusal.proofs.Places.{copied}
use Rattle.refusal.proofs.big_endian.U16BigEndian.put.Goals as goal

pub returns-then-fits_at-clause-out_after : goal.returns-then-fits_at-clause-out_after
unfolding bytes_of
returns-then-fits_at-clause-out_after c =
    let a = c.args in
    let there : fits 2 a.out.now a.at ≡ true = sym c.fits_at.ensures ∙ c.if-fits_at.true in
    let said : c.to_be_bytes.result ≡ bytes_of 2 a.self = rw (c.to_be_bytes.ensures, div-one) in
    rw there (copied 2 a.at a.out.now (leb-true (a.at + 2) (length a.out.now) there) (c.copy_from_slice.ensures.after ∙ said) refl)
