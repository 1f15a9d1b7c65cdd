-- `torrent_blocks::block` meets its contract: each end is a law of `Ends`, from what the tests before it have shown. Assumes nothing.
use Rattle.std.specs.Prelude.{Err}
use Rattle.std.proofs.Common.{◌≡◌, ◌+◌, ◌*◌, ◌/◌, ◌^◌, ◌<◌, ◌≤◌, length, arith, rules, ap, refl, sym}
use borrow.Author.Tests.{leb-true, leb-false}
use Rattle.torrent_blocks.specs.Spans.{joined_files, parts_from}
use Rattle.torrent_blocks.specs.Steps.{parts_in}
use Rattle.torrent_blocks.proofs.Legal.{offset-exact}
use Rattle.torrent_blocks.proofs.Ends.{breaks-first, piece-high, size-11, block-of-piece, block-34, block-37, block-done}
use Rattle.torrent_blocks.proofs.block.Goals as goal
use Rattle.torrent_blocks.proofs.block.Goals.{In_ok-held, Else-not-fit}

pub returns-then-not-legal_piece_length : goal.returns-then-not-legal_piece_length
returns-then-not-legal_piece_length c =
    let a = c.args in
    block-of-piece (joined_files a.lengths.now) a.piece_length a.piece.0 a.offset.0 a.count a.out.now c.refuse.result
    (size-11 a.lengths.now a.piece_length a.piece.0 (ap Err c.refuse.ensures) (breaks-first a.lengths.now a.piece_length (sym c.if-not-legal_piece_length.ensures)))

pub returns-in_err-held : goal.returns-in_err-held
returns-in_err-held c =
    let a = c.args in
    let e = block-of-piece (joined_files a.lengths.now) a.piece_length a.piece.0 a.offset.0 a.count a.out.now c.in_err-held.field-0.0 c.in_err-held.ensures in
    search rules

-- where the piece length is legal, the block's place is what it says
placed : (c : In_ok-held) → (c.content_offset-from.result.0 ≡ c.args.piece.0 * c.args.piece_length + c.args.offset.0) × (c.content_offset-from.result.0 < 2 ^ 57)
placed c =
    let a = c.args in
    offset-exact a.piece_length a.piece.0 a.offset.0 (piece-high a.lengths.now a.piece_length a.piece.0 c.in_ok-held.held c.in_ok-held.ensures) (omega arith) (omega arith) c.content_offset-from.ensures

pub returns-then-not-lies_within : goal.returns-then-not-lies_within
returns-then-not-lies_within c =
    let a = c.args in
    block-34 a.lengths.now a.piece_length a.piece.0 c.in_ok-held.held c.in_ok-held.ensures a.offset.0 a.count a.out.now (ap Err c.refuse-then-not-lies_within.ensures) (sym c.if-not-lies_within.ensures)

-- the block's place ends before 64 bits do
pub overflow_add-to : goal.overflow_add-to
overflow_add-to c = omega (arith, (placed (goal.at.overflow_add-to c).In_ok-held).1)

-- the parts found are those of the block
found : (c : In_ok-held) → parts_in c.seek-files.result c.content_offset-from.result.0 (c.content_offset-from.result.0 + c.args.count) ≡ parts_from 0 (joined_files c.args.lengths.now) c.content_offset-from.result.0 (c.content_offset-from.result.0 + c.args.count)
found c = c.seek-files.ensures.1 _ (omega (arith, (placed c).1))

pub returns-then-not-fit : goal.returns-then-not-fit
returns-then-not-fit c =
    let a = c.args in
    let x = c.content_offset-from.result.0 in
    let e = goal.at.returns-then-not-fit c in
    block-37 a.lengths.now a.piece_length a.piece.0 c.in_ok-held.held c.in_ok-held.ensures a.offset.0 a.count a.out.now (sym c.if-not-lies_within.ensures) x (x + a.count) _ (parts_in c.seek-files.result x (x + a.count)) (placed e.In_ok-held).0 refl (found e.In_ok-held) refl (ap Err c.refuse-then-not-fit.ensures) (omega (arith, leb-false _ _ (sym c.if-not-fit.ensures)))

fits : (c : Else-not-fit) → length (parts_in c.seek-files.result c.content_offset-from.result.0 (c.content_offset-from.result.0 + c.args.count)) ≤ length c.args.out.now / 3
fits c = omega (arith, leb-true _ _ (sym c.if-not-fit.ensures))

pub write-requires : goal.write-requires
write-requires c = omega (arith, fits (goal.at.write-requires c).Else-not-fit)

pub returns : goal.returns
returns c =
    let a = c.args in
    let x = c.content_offset-from.result.0 in
    let e = goal.at.returns c in
    block-done a.lengths.now a.piece_length a.piece.0 c.in_ok-held.held c.in_ok-held.ensures a.offset.0 a.count a.out.now (sym c.if-not-lies_within.ensures) x (x + a.count) _ (parts_in c.seek-files.result x (x + a.count)) (placed e.In_ok-held).0 refl (found e.In_ok-held) c.write.ensures.0 (omega (arith, fits e.Else-not-fit, c.write.ensures.0)) c.write.ensures.1
