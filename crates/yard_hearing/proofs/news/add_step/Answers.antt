-- `yard_hearing::news::add_step` meets its contract. Assumes nothing.
use mathlib.Core.Path.{sym, ◌∙◌}
use native.Mathlib.Omega.{arith}
use Rattle.yard_hearing.proofs.Announcing.{row_fits, news-few, bits-bad, bits-good}
use Rattle.yard_hearing.proofs.news.add_step.Goals as goal

pub overflow_mul-at : goal.overflow_mul-at
overflow_mul-at c = let f = row_fits c.args.h c.args.s c.args.rows.now c.args.holders.now c.args.n c.args.i c.args.used c.args.said.now c.requires.0 c.wide-pieces.result c.wide-pieces.ensures in omega arith

pub check_row-news-requires : goal.check_row-news-requires
check_row-news-requires c = (row_fits c.args.h c.args.s c.args.rows.now c.args.holders.now c.args.n c.args.i c.args.used c.args.said.now c.requires.0 c.wide-pieces.result c.wide-pieces.ensures, omega (arith, c.requires.1, c.wide-pieces.ensures), omega (arith, c.requires.0.counts, c.wide-pieces.ensures), omega (arith, c.requires.0.few, c.wide-pieces.ensures))

pub too_many-requires : goal.too_many-requires
too_many-requires c = news-few c.args.h c.args.s c.args.rows.now c.args.holders.now c.args.n c.args.i c.args.used c.args.said.now c.requires.0 c.wide-pieces.result c.wide-pieces.ensures c.check_row-news.result c.check_row-news.ensures

pub returns-then-too_many : goal.returns-then-too_many
returns-then-too_many c = bits-bad c.args.h c.args.s c.args.rows.now c.args.holders.now c.args.n c.args.i c.args.used c.args.said.now c.requires.0 c.wide-pieces.result c.wide-pieces.ensures c.check_row-news.result c.check_row-news.ensures c.too_many.result c.refused.result c.too_many.ensures c.if-too_many.true c.refused.ensures

pub raise_row-requires : goal.raise_row-requires
raise_row-requires c = (row_fits c.args.h c.args.s c.args.rows.now c.args.holders.now c.args.n c.args.i c.args.used c.args.said.now c.requires.0 c.wide-pieces.result c.wide-pieces.ensures, omega (arith, c.requires.1, c.wide-pieces.ensures), omega (arith, c.requires.0.counts, c.wide-pieces.ensures), omega (arith, c.requires.0.few, c.wide-pieces.ensures))

pub merge_row-requires : goal.merge_row-requires
merge_row-requires c = (row_fits c.args.h c.args.s c.args.rows.now c.args.holders.now c.args.n c.args.i c.args.used c.args.said.now c.requires.0 c.wide-pieces.result c.wide-pieces.ensures, omega (arith, c.requires.1, c.wide-pieces.ensures))

pub gain-requires : goal.gain-requires
gain-requires c = (c.requires.0.seats, c.requires.0.few, news-few c.args.h c.args.s c.args.rows.now c.args.holders.now c.args.n c.args.i c.args.used c.args.said.now c.requires.0 c.wide-pieces.result c.wide-pieces.ensures c.check_row-news.result c.check_row-news.ensures, sym c.too_many.ensures ∙ c.if-too_many.false)

pub returns : goal.returns
returns c = bits-good c.args.h c.args.s c.args.rows.now c.args.holders.now c.args.n c.args.i c.args.used c.args.said.now c.requires.0 c.wide-pieces.result c.wide-pieces.ensures c.check_row-news.result c.check_row-news.ensures c.too_many.result c.gain.result _ _ c.too_many.ensures c.if-too_many.false c.gain.ensures c.merge_row.ensures c.raise_row.ensures
