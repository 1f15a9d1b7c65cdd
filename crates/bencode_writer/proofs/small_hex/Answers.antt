-- `bencode_writer::small_hex` meets its contract. Assumes nothing.
use Rattle.std.proofs.Common.{ap, Err, ◌∙◌}
use Rattle.bencode_scalar.proofs.Forms.{passed_on}
use Rattle.bencode_writer.proofs.Escapes.{hex-room, hex-over}
use Rattle.bencode_writer.proofs.Laws.{put-done, put-nothing}
use Rattle.bencode_writer.proofs.small_hex.Goals as goal

pub returns-in_err-fits : goal.returns-in_err-fits
returns-in_err-fits c = let e = c.in_err-fits.ensures in put-nothing _ _ _ (hex-over _ _ e.0) (passed_on _ _ c.from_residual.ensures.1 ∙ ap Err e.1)

pub store_small_hex-requires : goal.store_small_hex-requires
store_small_hex-requires c = hex-room _ _ c.in_ok-fits.ensures

pub returns : goal.returns
returns c = let stored = c.store_small_hex.ensures in put-done _ _ _ (hex-room _ _ c.in_ok-fits.ensures) stored.place stored.out
