-- `words_to_16` meets its contract: the block's own words, one at each turn. Assumes nothing.
use Rattle.hash_sha1.specs.Rounds.{Made}
use Rattle.hash_sha1.proofs.block.words_to_16.Given as goal

abbrev pub invariant-loop-t : goal.invariant-loop-t
invariant-loop-t l = Made l.b l.t l.w
