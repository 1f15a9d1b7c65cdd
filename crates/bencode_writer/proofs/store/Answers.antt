-- `bencode_writer::store` meets its contract. Assumes nothing.
use Rattle.std.proofs.Common.{arith, refl}
use Rattle.bencode_writer.proofs.Stores.{storing-start, storing-more, storing-end}
use Rattle.bencode_writer.proofs.store.Goals as goal

pub loop-i-init : goal.loop-i-init
loop-i-init c = storing-start _ _ _ c.requires

pub loop-i-preserved : goal.loop-i-preserved
loop-i-preserved c = storing-more _ _ _ c.loop-i.invariant (omega arith)

pub returns : goal.returns
returns c = record { place = refl; out = storing-end _ _ _ c.loop-i.invariant (omega arith) }
