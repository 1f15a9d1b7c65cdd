-- `rounds` meets its contract: i rounds are done. Assumes nothing.
use Rattle.std.proofs.Common.{◌≡◌, refl, add-one, arith}
use Rattle.hash_sha1.specs.Rounds.{rounds_at}
use Rattle.hash_sha1.proofs.block.rounds.Goals as goal

pub loop-i-init : goal.loop-i-init
unfolding rounds_at
loop-i-init g c = refl

pub loop-i-preserved : goal.loop-i-preserved
unfolding rounds_at
loop-i-preserved g c = rw add-one (cc)

pub returns : goal.returns
returns g c =
    let e : c.loop-i.i ≡ g.row.N = omega arith in
    rw e at c.loop-i.invariant
