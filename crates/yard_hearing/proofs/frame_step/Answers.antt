-- `yard_hearing::frame_step` meets its contract. Assumes nothing.
use mathlib.Core.Path.{refl}
use native.Mathlib.Omega.{arith}
use Rattle.yard_tables.specs.Frames.{requested}
use Rattle.yard_tables.specs.Tables.{used}
use Rattle.yard_tables.proofs.Blocks.{block-said, piece-said}
use Rattle.yard_hearing.proofs.Hearing.{heard-choke, heard-unchoke, heard-interested, heard-not-interested, heard-other, said-have, part_in, said-bits, said-request, said-piece, said-cancel}
use Rattle.yard_hearing.proofs.frame_step.Goals as goal

pub overflow_add-end : goal.overflow_add-end
overflow_add-end c = let l = part_in c.args.h c.args.s c.args.rows.now c.args.holders.now c.args.n c.args.i c.args.used c.args.bytes.now c.args.f _ c.in-Bitfield.is c.requires.1 in omega arith

pub slice_bounds-bitfield_step-end : goal.slice_bounds-bitfield_step-end
slice_bounds-bitfield_step-end c = let l = part_in c.args.h c.args.s c.args.rows.now c.args.holders.now c.args.n c.args.i c.args.used c.args.bytes.now c.args.f _ c.in-Bitfield.is c.requires.1 in omega arith

pub returns-in-Choke : goal.returns-in-Choke
returns-in-Choke c = heard-choke c.args.h c.args.s c.args.rows.now c.args.holders.now c.args.n c.args.i c.args.used c.args.bytes.now c.args.f c.they_choke.result c.passed.result c.passed.ensures c.in-Choke.is c.they_choke.ensures

pub returns-in-Unchoke : goal.returns-in-Unchoke
returns-in-Unchoke c = heard-unchoke c.args.h c.args.s c.args.rows.now c.args.holders.now c.args.n c.args.i c.args.used c.args.bytes.now c.args.f c.they_choke-in-Unchoke.result c.passed-in-Unchoke.result c.passed-in-Unchoke.ensures c.in-Unchoke.is c.they_choke-in-Unchoke.ensures

pub returns-in-Interested : goal.returns-in-Interested
returns-in-Interested c = heard-interested c.args.h c.args.s c.args.rows.now c.args.holders.now c.args.n c.args.i c.args.used c.args.bytes.now c.args.f c.they_want.result c.passed-in-Interested.result c.passed-in-Interested.ensures c.in-Interested.is c.they_want.ensures

pub returns-in-NotInterested : goal.returns-in-NotInterested
returns-in-NotInterested c = heard-not-interested c.args.h c.args.s c.args.rows.now c.args.holders.now c.args.n c.args.i c.args.used c.args.bytes.now c.args.f c.they_want-in-NotInterested.result c.passed-in-NotInterested.result c.passed-in-NotInterested.ensures c.in-NotInterested.is c.they_want-in-NotInterested.ensures

pub returns-in-Have : goal.returns-in-Have
returns-in-Have c = said-have c.args.h c.args.s c.args.rows.now c.args.holders.now c.args.n c.args.i c.args.used c.args.bytes.now c.args.f _ _ c.in-Have.is c.have_step.ensures

pub returns-in-Bitfield : goal.returns-in-Bitfield
returns-in-Bitfield c = said-bits c.args.h c.args.s c.args.rows.now c.args.holders.now c.args.n c.args.i c.args.used c.args.bytes.now c.args.f _ _ c.in-Bitfield.is c.bitfield_step.ensures

pub returns-in-Request : goal.returns-in-Request
returns-in-Request c = said-request c.args.h c.args.s c.args.rows.now c.args.holders.now c.args.n c.args.i c.args.used c.args.bytes.now c.args.f _ _ _ _ c.wide.result c.in-Request.is c.wide.ensures (block-said c.args.h c.args.s _ _ c.wide.result _ (requested c.args.used c.args.s) _ _ c.args.rows.now c.args.holders.now c.lies_within-within.ensures c.asked.ensures c.block_step.ensures)

pub returns-in-Piece : goal.returns-in-Piece
returns-in-Piece c = said-piece c.args.h c.args.s c.args.rows.now c.args.holders.now c.args.n c.args.i c.args.used c.args.bytes.now c.args.f _ _ _ _ c.in-Piece.is c.requires.1 (piece-said c.args.h c.args.s _ _ _ c.args.used c.args.rows.now c.args.holders.now _ _ c.lies_within-within-in-Piece.ensures c.piece_step.ensures)

pub returns-in-Cancel : goal.returns-in-Cancel
returns-in-Cancel c = said-cancel c.args.h c.args.s c.args.rows.now c.args.holders.now c.args.n c.args.i c.args.used c.args.bytes.now c.args.f _ _ _ _ c.wide-in-Cancel.result c.in-Cancel.is c.wide-in-Cancel.ensures (block-said c.args.h c.args.s _ _ c.wide-in-Cancel.result _ (used c.args.used) _ _ c.args.rows.now c.args.holders.now c.lies_within-within-in-Cancel.ensures refl c.block_step-in-Cancel.ensures)

pub returns-in-Other : goal.returns-in-Other
returns-in-Other c = heard-other c.args.h c.args.s c.args.rows.now c.args.holders.now c.args.n c.args.i c.args.used c.args.bytes.now c.args.f c.args.s c.passed-in-Other.result c.passed-in-Other.ensures _ _ c.in-Other.is refl
