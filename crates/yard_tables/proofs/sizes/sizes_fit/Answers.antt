-- `yard_tables::sizes::sizes_fit` meets its contract. Assumes nothing.
use mathlib.Core.Path.{sym, ◌∙◌}
use Prim.Native.Nat.{◌+◌, ◌/◌}
use native.Mathlib.Nat.{mul-le-mul_right}
use native.Mathlib.Omega.{arith}
use borrow.Author.Tests.{not-true, not-false}
use Rattle.yard_tables.proofs.Sizing.{none, many, no-seat, many-seats, other_length, no_last, long-last, other-rows, by-holders}
use mathlib.Core.Path.{ap}
use mathlib.Core.Bool.{not}
use Rattle.yard_tables.proofs.sizes.sizes_fit.Goals as goal

pub returns-then-pieces-lt1 : goal.returns-then-pieces-lt1
returns-then-pieces-lt1 c = none c.args.h c.args.n c.args.rows c.args.holders c.wide-pieces.result c.wide-pieces.ensures c.if-pieces-lt1.true

pub returns-then-pieces-gt-PIECES : goal.returns-then-pieces-gt-PIECES
returns-then-pieces-gt-PIECES c = many c.args.h c.args.n c.args.rows c.args.holders c.wide-pieces.result c.wide-pieces.ensures c.if-pieces-gt-PIECES.true

pub returns-then-n-lt1 : goal.returns-then-n-lt1
returns-then-n-lt1 c = no-seat c.args.h c.args.n c.args.rows c.args.holders c.wide-pieces.result c.wide-pieces.ensures c.if-n-lt1.true

pub returns-then-n-gt-SEATS : goal.returns-then-n-gt-SEATS
returns-then-n-gt-SEATS c = many-seats c.args.h c.args.n c.args.rows c.args.holders c.wide-pieces.result c.wide-pieces.ensures c.if-n-gt-SEATS.true

pub returns-then-not-legal_piece_length : goal.returns-then-not-legal_piece_length
returns-then-not-legal_piece_length c = other_length c.args.h c.args.n c.args.rows c.args.holders c.wide-pieces.result c.wide-pieces.ensures (sym c.legal_piece_length.ensures ∙ not-true c.legal_piece_length.result (ap not c.if-not-legal_piece_length.true))

pub returns-then-h-lt1 : goal.returns-then-h-lt1
returns-then-h-lt1 c = no_last c.args.h c.args.n c.args.rows c.args.holders c.wide-pieces.result c.wide-pieces.ensures c.if-h-lt1.true

pub returns-then-h : goal.returns-then-h
returns-then-h c = long-last c.args.h c.args.n c.args.rows c.args.holders c.wide-pieces.result c.wide-pieces.ensures c.if-h.true

pub overflow_mul-n : goal.overflow_mul-n
overflow_mul-n c = omega (arith, mul-le-mul_right ((c.wide-pieces.result + 7) / 8) c.if-n-gt-SEATS.false)

pub returns-then-rows-n : goal.returns-then-rows-n
returns-then-rows-n c = other-rows c.args.h c.args.n c.args.rows c.args.holders c.wide-pieces.result c.wide-pieces.ensures c.if-rows-n.true

pub returns : goal.returns
returns c = by-holders c.args.h c.args.n c.args.rows c.args.holders c.wide-pieces.result c.wide-pieces.ensures c.if-pieces-lt1.false c.if-pieces-gt-PIECES.false c.if-n-lt1.false c.if-n-gt-SEATS.false (sym c.legal_piece_length.ensures ∙ not-false c.legal_piece_length.result (ap not c.if-not-legal_piece_length.false)) c.if-h-lt1.false c.if-h.false c.if-rows-n.false
