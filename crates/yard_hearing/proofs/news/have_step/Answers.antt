-- `yard_hearing::news::have_step` meets its contract. Assumes nothing.
use mathlib.Core.Path.{sym, ap, ◌∙◌}
use Prim.Native.Nat.{ℕ, ◌+◌, ◌*◌, ◌/◌, ◌<◌}
use native.Mathlib.Omega.{arith}
use lib.ListN.{length}
use Rattle.yard_tables.specs.Frames.{have_of}
use Rattle.yard_tables.specs.Tables.{around}
use Rattle.yard_tables.proofs.Digits.{row-byte}
use Rattle.yard_hearing.specs.declared.row.News.{News}
use Rattle.yard_hearing.proofs.Announcing.{have-beyond, have-had, have-bad, have-good, count_room}
use Rattle.yard_hearing.proofs.news.have_step.Goals as goal

pub returns-then-pieces-p : goal.returns-then-pieces-p
returns-then-pieces-p c = have-beyond c.args.h c.args.s c.args.rows.now c.args.holders.now c.args.n c.args.i c.args.used c.wide-p.result c.refused.result c.wide-pieces.result c.wide-pieces.ensures c.if-pieces-p.true c.refused.ensures ∙ ap (λ (x : ℕ). have_of c.args.n c.args.i c.args.used x (around c.args.h c.args.s c.args.rows.now c.args.holders.now)) c.wide-p.ensures

pub overflow_mul-at : goal.overflow_mul-at
overflow_mul-at c = let f : c.args.i * ((c.wide-pieces.result + 7) / 8) + c.wide-p.result / 8 < length c.args.rows.now = rw (c.requires.row, c.wide-pieces.ensures) (row-byte c.args.i c.args.n c.args.h.pieces c.wide-p.result c.requires.seat (omega arith)) in omega arith

pub overflow_add-at-2 : goal.overflow_add-at-2
overflow_add-at-2 c = let f : c.args.i * ((c.wide-pieces.result + 7) / 8) + c.wide-p.result / 8 < length c.args.rows.now = rw (c.requires.row, c.wide-pieces.ensures) (row-byte c.args.i c.args.n c.args.h.pieces c.wide-p.result c.requires.seat (omega arith)) in omega arith

pub bounds-rows-at : goal.bounds-rows-at
bounds-rows-at c = let f : c.args.i * ((c.wide-pieces.result + 7) / 8) + c.wide-p.result / 8 < length c.args.rows.now = rw (c.requires.row, c.wide-pieces.ensures) (row-byte c.args.i c.args.n c.args.h.pieces c.wide-p.result c.requires.seat (omega arith)) in omega arith

pub returns-then-bit_of : goal.returns-then-bit_of
returns-then-bit_of c = have-had c.args.h c.args.s c.args.rows.now c.args.holders.now c.args.n c.args.i c.args.used c.wide-p.result c.wide-pieces.result c.wide-pieces.ensures c.if-pieces-p.false c.requires c.bit_of.result c.bit_of.ensures c.if-bit_of.true c.passed.result c.passed.ensures ∙ ap (λ (x : ℕ). have_of c.args.n c.args.i c.args.used x (around c.args.h c.args.s c.args.rows.now c.args.holders.now)) c.wide-p.ensures

pub too_many-requires : goal.too_many-requires
too_many-requires c = omega (arith, ap (λ (x : News). x.added) c.one_more-news.ensures)

pub returns-then-too_many : goal.returns-then-too_many
returns-then-too_many c = have-bad c.args.h c.args.s c.args.rows.now c.args.holders.now c.args.n c.args.i c.args.used c.wide-p.result c.wide-pieces.result c.wide-pieces.ensures c.if-pieces-p.false c.requires c.bit_of.result c.bit_of.ensures c.if-bit_of.false c.one_more-news.result c.one_more-news.ensures c.too_many.result c.refused-then-too_many.result c.too_many.ensures c.if-too_many.true c.refused-then-too_many.ensures ∙ ap (λ (x : ℕ). have_of c.args.n c.args.i c.args.used x (around c.args.h c.args.s c.args.rows.now c.args.holders.now)) c.wide-p.ensures

pub overflow_add-holders : goal.overflow_add-holders
overflow_add-holders c = omega (arith, c.requires.seats, count_room c.args.h c.args.s c.args.rows.now c.args.holders.now c.args.n c.args.i c.args.used c.wide-p.result c.wide-pieces.result c.wide-pieces.ensures c.if-pieces-p.false c.requires c.bit_of.result c.bit_of.ensures c.if-bit_of.false c.one_more-news.result c.one_more-news.ensures c.too_many.result c.too_many.ensures c.if-too_many.false)

pub bounds-rows-at-2 : goal.bounds-rows-at-2
bounds-rows-at-2 c = let f : c.args.i * ((c.wide-pieces.result + 7) / 8) + c.wide-p.result / 8 < length c.args.rows.now = rw (c.requires.row, c.wide-pieces.ensures) (row-byte c.args.i c.args.n c.args.h.pieces c.wide-p.result c.requires.seat (omega arith)) in omega arith

pub gain-requires : goal.gain-requires
gain-requires c = (c.requires.seats, c.requires.few, omega (arith, ap (λ (x : News). x.added) c.one_more-news.ensures), sym c.too_many.ensures ∙ c.if-too_many.false)

pub returns : goal.returns
returns c = have-good c.args.h c.args.s c.args.rows.now c.args.holders.now c.args.n c.args.i c.args.used c.wide-p.result c.wide-pieces.result c.wide-pieces.ensures c.if-pieces-p.false c.requires c.bit_of.result c.bit_of.ensures c.if-bit_of.false c.one_more-news.result c.one_more-news.ensures c.too_many.result c.gain.result c.mask.result c.too_many.ensures c.if-too_many.false c.gain.ensures c.mask.ensures ∙ ap (λ (x : ℕ). have_of c.args.n c.args.i c.args.used x (around c.args.h c.args.s c.args.rows.now c.args.holders.now)) c.wide-p.ensures
