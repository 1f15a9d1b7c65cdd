-- `all` meets its contract: before a block, those before it are hashed. Assumes nothing.
use Rattle.std.proofs.Common.{refl, ◌∙◌, ap, ◌≡◌, ℕ, arith, length, ◌/◌, List, get_or}
use Rattle.hash_digest.specs.Message.{folded}
use Rattle.hash_digest.proofs.Blocks.{hashed-next}
use Rattle.hash_sha1.specs.Sha1.{compress}
use Rattle.hash_sha1.proofs.block.all.Goals as goal

pub loop-b-init : goal.loop-b-init
unfolding folded
loop-b-init c = refl

pub loop-b-preserved : goal.loop-b-preserved
loop-b-preserved c =
    hashed-next compress c.args.m.now c.loop-b.b-index c.args.first _ (omega arith) c.loop-b.invariant
    (c.compressed-h.ensures ∙ ap (λ (x : List (List ℕ)). compress c.loop-b.h (get_or x c.loop-b.b-index _)) c.as_chunks.ensures.front)

pub returns : goal.returns
returns c =
    let e : c.loop-b.b-index ≡ length c.args.m.now / 64 = omega arith in
    c.loop-b.invariant ∙ ap (folded compress c.args.first c.args.m.now) e
