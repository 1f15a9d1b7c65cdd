-- `week::writing::add_up` meets its contract. Assumes nothing.
use mathlib.Core.Path.{◌≡◌}
use Prim.Native.Nat.{◌+◌}
use lib.ListN.{take}
use Rattle.torrent_blocks.specs.Rules.{sum}
use Rattle.week.proofs.writing.add_up.Given as goal

abbrev pub invariant-loop-len : goal.invariant-loop-len
invariant-loop-len l = l.left + sum (take l.len-index l.lengths) ≡ l.count
