-- `rounds` meets its contract: i rounds are done. Assumes nothing.
use Rattle.std.proofs.Common.{◌≡◌}
use Rattle.hash_sha1.specs.Rounds.{rounds_at}
use Rattle.hash_sha1.proofs.block.rounds.Given as goal

abbrev pub invariant-loop-i : goal.invariant-loop-i
invariant-loop-i g l = l.now ≡ rounds_at g.F.Kind.mix l.k l.t l.i l.fn.g l.w
