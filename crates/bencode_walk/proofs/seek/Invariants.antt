-- `bencode_walk::seek` meets its contract. Assumes nothing.
use Rattle.bencode_walk.proofs.Seeking.{Seeking}
use lib.ListN.{length}
use Prim.Native.Nat.{◌-◌}
use Rattle.bencode_walk.proofs.seek.Given as goal

abbrev pub invariant-loop-k : goal.invariant-loop-k
invariant-loop-k l = Seeking l.text l.key l.at l.p

abbrev pub decreases-loop-k : goal.decreases-loop-k
decreases-loop-k l = length l.text - l.p
