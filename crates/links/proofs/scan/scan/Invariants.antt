-- `links::scan::scan` meets its contract. Assumes nothing.
use Prim.Native.Nat.{◌-◌}
use lib.ListN.{length}
use Rattle.links.proofs.Pairing.{Passing}
use Rattle.links.proofs.scan.scan.Given as goal

abbrev pub invariant-loop-said : goal.invariant-loop-said
invariant-loop-said l = Passing l.text l.pass l.at

abbrev pub decreases-loop-said : goal.decreases-loop-said
decreases-loop-said l = length l.text - l.at
