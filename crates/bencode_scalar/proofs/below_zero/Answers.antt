-- `bencode_scalar::below_zero` meets its contract. Assumes nothing.
use Rattle.bencode_scalar.proofs.Forms.{minus-fits, minus-large, one_less}
use lib.IntN.{ℤ, negsuc, ◌-ℤ◌}
use Prim.Native.Nat.{◌-◌}
use mir.Val.{SFits}
use mir.Syntax.{w64}
use mir.ValLaws.{to_z_pos, to_z-of_z}
use Rattle.std.proofs.Common.{sym, subst}
use Rattle.bencode_scalar.proofs.below_zero.Goals as goal

pub overflow_sub-result : goal.overflow_sub-result
overflow_sub-result c = subst (λ (z : ℤ). SFits w64 (negsuc 0 -ℤ z)) (sym (to_z_pos w64 (c.args.run.value - 1) c.if-less-lt9223372036854775808.true)) (subst (SFits w64) (sym (one_less (c.args.run.value - 1))) (record { sfits = c.if-less-lt9223372036854775808.true }))

pub returns-then-less-lt9223372036854775808 : goal.returns-then-less-lt9223372036854775808
returns-then-less-lt9223372036854775808 c = λ n h. let f = minus-fits n c.args.run.value c.args.run.next h c.requires c.if-less-lt9223372036854775808.true in rw (to_z-of_z w64 _ (overflow_sub-result c), to_z_pos w64 (c.args.run.value - 1) c.if-less-lt9223372036854775808.true, one_less (c.args.run.value - 1), f.1, sym f.0)

pub returns-else-less-lt9223372036854775808 : goal.returns-else-less-lt9223372036854775808
returns-else-less-lt9223372036854775808 c = λ n h. rw (minus-large n c.args.run.value c.args.run.next h c.requires c.if-less-lt9223372036854775808.false)
