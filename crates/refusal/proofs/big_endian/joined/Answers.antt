-- `joined` meets its contract: what the four bytes stand for is the sum that std says. Assumes nothing.
use native.Mathlib.Omega.{arith}
use Rattle.refusal.specs.BigEndian.{big_endian_of}
use Rattle.refusal.proofs.big_endian.joined.Goals as goal

pub returns : goal.returns
unfolding big_endian_of
returns c = omega arith
