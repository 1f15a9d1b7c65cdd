-- `torrent_blocks::parts::Files::reach` meets its contract: the lengths before a number and those from it on are all. Assumes nothing.
use Rattle.std.proofs.Common.{◌≡◌, ℕ, take, drop, arith, ap, ◌∙◌}
use Rattle.std.proofs.lemmas.List.{take_min}
use Rattle.torrent_blocks.specs.Rules.{sum}
use Rattle.torrent_blocks.proofs.Steps.{sum-parts}
use Rattle.torrent_blocks.proofs.parts.Files.reach.Goals as goal

pub returns : goal.returns
returns c =
    let l = c.args.lengths.now in
    let n = c.min-number.result in
    let before : sum c.split_at.result.0.now ≡ sum (take n l) = ap sum c.split_at.ensures.front in
    let after : sum c.split_at.result.1.now ≡ sum (drop n l) = ap sum c.split_at.ensures.back in
    let same : sum (take n l) ≡ sum (take c.args.file l) = ap (λ (k : ℕ). sum (take k l)) c.min-number.ensures ∙ ap sum (take_min c.args.file l) in
    (omega (arith, sum-parts l n), omega arith)
