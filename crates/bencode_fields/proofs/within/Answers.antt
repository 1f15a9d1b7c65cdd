-- `bencode_fields::within` meets its contract. Assumes nothing.
use Rattle.refusal.specs.Paper.{refusal}
use mathlib.Core.Path.{ap, ◌∙◌}
use mathlib.Core.Bool.{not}
use native.Mathlib.Omega.{arith}
use lib.Dec.{T}
use lib.IntN.{pos}
use lib.Signed.{lt_z, lt_z_no, yes_non_neg, nat_abs-le}
use mir.Syntax.{w64}
use mir.ValLaws.{to_z-of_z}
use Rattle.bencode_fields.proofs.Fitting.{below-zero, too_large, in-range}
use Rattle.bencode_fields.proofs.within.Goals as goal

pub returns-then-z-lt0 : goal.returns-then-z-lt0
returns-then-z-lt0 c =
    let e = to_z-of_z w64 _ c.ranges.z in
    ap refusal c.refuse.ensures ∙ below-zero c.args.most c.args.at c.args.past c.args.z (rw e at c.if-z-lt0.true)

pub overflow_cast-n : goal.overflow_cast-n
overflow_cast-n c =
    let f = c.ranges.z in
    let e = to_z-of_z w64 _ f in
    let n : T (not (lt_z c.args.z (pos 0))) = rw (rw e at c.if-z-lt0.false) tt in
    rw e (yes_non_neg {z = c.args.z} (lt_z_no n), record { fits = omega (arith, nat_abs-le c.args.z f.sfits) })

pub returns-then-most-n : goal.returns-then-most-n
returns-then-most-n c =
    let e = to_z-of_z w64 _ c.ranges.z in
    ap refusal c.refuse-then-most-n.ensures ∙ too_large c.args.most c.args.at c.args.past c.args.z (rw e at c.if-z-lt0.false) (rw e at c.if-most-n.true)

pub returns : goal.returns
returns c =
    let e = to_z-of_z w64 _ c.ranges.z in
    rw e (in-range c.args.most c.args.at c.args.past c.args.z (rw e at c.if-z-lt0.false) (rw e at c.if-most-n.false))
