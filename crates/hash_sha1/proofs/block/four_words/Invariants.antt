-- `four_words` meets its contract: i words are made. Assumes nothing.
use Rattle.std.proofs.Common.{◌≡◌}
use Rattle.hash_digest.specs.Window.{moved}
use Rattle.hash_sha1.specs.Rounds.{rule}
use Rattle.hash_sha1.proofs.block.four_words.Given as goal

abbrev pub invariant-loop-i : goal.invariant-loop-i
invariant-loop-i l = l.w ≡ moved rule l.t l.i l.fn.w
