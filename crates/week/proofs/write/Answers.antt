-- `week::write` meets its contract. Assumes nothing.
use Rattle.std.specs.Prelude.{Err}
use mathlib.Core.Path.{sym, ap, ◌∙◌}
use lib.ListN.{length}
use native.Mathlib.Omega.{arith}
use borrow.Author.Tests.{eqb-true}
use Rattle.torrent_blocks.specs.Rules.{sum}
use Rattle.week.proofs.Packing.{count_none, count-over, sum-wrong, sum-right}
use Rattle.week.proofs.write.Goals as goal

pub returns-then-lengths-eq0 : goal.returns-then-lengths-eq0
returns-then-lengths-eq0 c = count_none c.args.bodies.now c.args.lengths.now c.args.out.now c.if-lengths-eq0.true (ap Err c.refuse.ensures)

pub returns-then-lengths-gt-PACKAGES : goal.returns-then-lengths-gt-PACKAGES
returns-then-lengths-gt-PACKAGES c = count-over c.args.bodies.now c.args.lengths.now c.args.out.now c.if-lengths-gt-PACKAGES.true (ap Err c.refuse-then-lengths-gt-PACKAGES.ensures)

pub written-requires : goal.written-requires
written-requires c = (c.if-lengths-gt-PACKAGES.false, eqb-true (sum c.args.lengths.now) (length c.args.bodies.now) (sym c.add_up.ensures ∙ c.if-add_up.true))

pub returns-then-add_up : goal.returns-then-add_up
returns-then-add_up c = c.written.ensures ∙ sum-right c.args.bodies.now c.args.lengths.now c.args.out.now (omega arith) c.if-lengths-gt-PACKAGES.false c.add_up.ensures c.if-add_up.true

pub returns : goal.returns
returns c = sum-wrong c.args.bodies.now c.args.lengths.now c.args.out.now (omega arith) c.if-lengths-gt-PACKAGES.false c.add_up.ensures c.if-add_up.false (ap Err c.refuse-2.ensures)
