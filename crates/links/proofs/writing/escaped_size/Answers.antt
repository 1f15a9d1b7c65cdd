-- `links::writing::escaped_size` meets its contract. Assumes nothing.
use mathlib.Core.Path.{ap}
use Prim.Native.Nat.{ℕ}
use lib.ListN.{length}
use Rattle.links.specs.Writing.{unreserved}
use Rattle.bencode_writer.proofs.Escapes.{escaped-none}
use Rattle.links.proofs.Putting.{escaped-length}
use native.Mathlib.Omega.{arith}
use Rattle.links.proofs.writing.escaped_size.Goals as goal

pub loop-b-init : goal.loop-b-init
loop-b-init c = (omega arith, omega arith)

pub loop-b-preserved : goal.loop-b-preserved
loop-b-preserved c = (omega (arith, escaped-length c.args.bytes.now c.loop-b.b-index (omega arith), c.loop-b.invariant.0, c.byte_size-count.ensures.0), omega (arith, c.loop-b.invariant.1, c.byte_size-count.ensures.1))

pub returns : goal.returns
returns c = (omega (arith, c.loop-b.invariant.0, ap (length {A = ℕ}) (escaped-none unreserved c.args.bytes.now c.loop-b.b-index (omega arith))), omega (arith, c.loop-b.invariant.1))
