-- `four_words` meets its contract: i words are made. Assumes nothing.
use Rattle.std.proofs.Common.{◌≡◌, refl, add-one, arith}
use Rattle.hash_digest.specs.Window.{moved}
use Rattle.hash_sha1.proofs.block.four_words.Goals as goal

pub loop-i-init : goal.loop-i-init
unfolding moved
loop-i-init c = refl

pub loop-i-preserved : goal.loop-i-preserved
unfolding moved
loop-i-preserved c = rw add-one (cc)

pub returns : goal.returns
returns c =
    let e : c.loop-i.i ≡ 4 = omega arith in
    rw e at c.loop-i.invariant
