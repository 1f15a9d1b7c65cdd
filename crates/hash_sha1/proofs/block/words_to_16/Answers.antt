-- `words_to_16` meets its contract: the block's own words, one at each turn. Assumes nothing.
use Rattle.std.proofs.Common.{arith}
use Rattle.refusal.specs.BigEndian.{big_endian_of}
use Rattle.hash_sha1.proofs.Rounds.{begun, made-early, filled-to}
use Rattle.hash_sha1.proofs.block.words_to_16.Goals as goal

pub loop-t-init : goal.loop-t-init
loop-t-init c = begun c.args.b.now c.args.w.now (omega arith)

pub loop-t-preserved : goal.loop-t-preserved
unfolding big_endian_of
loop-t-preserved c = made-early c.args.b.now c.loop-t.w c.loop-t.t c.from_be_bytes.result (omega arith) (omega arith) (omega (arith, c.from_be_bytes.ensures)) c.loop-t.invariant

pub returns : goal.returns
returns c = filled-to c.args.b.now c.loop-t.w c.loop-t.t 16 (omega arith) c.loop-t.invariant
