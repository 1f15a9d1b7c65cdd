-- `u16::get` meets its contract: these are the two bytes at the place. Assumes nothing.
use mathlib.Core.Path.{◌≡◌, sym, ap, ◌∙◌}
use mathlib.Core.Bool.{true}
use native.Mathlib.Omega.{arith}
use borrow.Author.Tests.{leb-true}
use lib.ListN.{length}
use Rattle.std.specs.Prelude.{◌+◌, Some}
use Rattle.refusal.specs.BigEndian.{big_endian_of, fits}
use Rattle.refusal.proofs.Places.{two-there}
use Rattle.refusal.proofs.big_endian.U16BigEndian.get.Goals as goal

pub returns-then-fits_at : goal.returns-then-fits_at
unfolding big_endian_of
returns-then-fits_at c =
    let a = c.args in
    let there : fits 2 a.text.now a.at ≡ true = sym c.fits_at.ensures ∙ c.if-fits_at.true in
    rw (there, two-there a.at a.text.now (leb-true (a.at + 2) (length a.text.now) there)) (ap Some (omega arith))
