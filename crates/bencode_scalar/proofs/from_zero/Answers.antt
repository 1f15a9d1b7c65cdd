-- `bencode_scalar::from_zero` meets its contract. Assumes nothing.
use Rattle.bencode_scalar.proofs.Forms.{plus-fits, plus-large}
use mir.Syntax.{w64}
use mir.ValLaws.{to_z_pos}
use Rattle.std.proofs.Common.{sym}
use Rattle.bencode_scalar.proofs.from_zero.Goals as goal

pub returns-then-run-lt9223372036854775808 : goal.returns-then-run-lt9223372036854775808
returns-then-run-lt9223372036854775808 c = λ n h. let f = plus-fits n c.args.run.value c.args.run.next h c.if-run-lt9223372036854775808.true in rw (to_z_pos w64 c.args.run.value c.if-run-lt9223372036854775808.true, f.1, sym f.0)

pub returns-else-run-lt9223372036854775808 : goal.returns-else-run-lt9223372036854775808
returns-else-run-lt9223372036854775808 c = λ n h. rw (plus-large n c.args.run.value c.args.run.next h c.if-run-lt9223372036854775808.false)
