-- `bencode_writer::store_decimal` meets its contract. Assumes nothing.
use Rattle.std.proofs.Common.{arith}
use Rattle.bencode_writer.proofs.Decimals.{printing-start, printing-more, printing-end}
use Rattle.bencode_writer.proofs.store_decimal.Goals as goal

pub loop-place-init : goal.loop-place-init
loop-place-init c = printing-start _ _ _ (omega arith) (omega arith)

pub loop-place-preserved : goal.loop-place-preserved
loop-place-preserved c = printing-more _ _ _ c.loop-place.invariant c.loop-place-test.true

pub returns : goal.returns
returns c = record { place = omega arith; out = printing-end _ _ _ c.loop-place.invariant c.loop-place-test.false }
