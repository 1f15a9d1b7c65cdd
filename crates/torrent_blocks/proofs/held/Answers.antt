-- `torrent_blocks::held` meets its contract: each end is a law of `Ends`, from what the tests before it have shown. Assumes nothing.
use Rattle.std.specs.Prelude.{Err}
use Rattle.std.proofs.Common.{ap, arith}
use Rattle.torrent_blocks.proofs.Ends.{Known, test-fails, test-holds, size-11, size-31, size-done}
use Rattle.torrent_blocks.proofs.held.Goals as goal
use Rattle.torrent_blocks.proofs.held.Goals.{Else-not-keeps_rules}

pub returns-then-not-keeps_rules : goal.returns-then-not-keeps_rules
returns-then-not-keeps_rules c =
    let a = c.args in
    size-11 a.lengths.now a.piece_length a.piece.0 (ap Err c.refuse.ensures)
    (test-fails a.lengths.now a.piece_length a.total.0 (omega arith) c.if-not-keeps_rules.ensures)

rules-kept : (c : Else-not-keeps_rules) → Known c.args.lengths.now c.args.piece_length c.args.total.0
rules-kept c =
    let a = c.args in
    test-holds a.lengths.now a.piece_length a.total.0 (omega arith) c.if-not-keeps_rules.ensures

pub returns-then-pieces-piece : goal.returns-then-pieces-piece
returns-then-pieces-piece c =
    let a = c.args in
    size-31 a.lengths.now a.piece_length a.piece.0 a.total.0 (rules-kept (goal.at.returns-then-pieces-piece c).Else-not-keeps_rules) (ap Err c.refuse-then-pieces-piece.ensures) (omega arith)

pub returns : goal.returns
returns c =
    let a = c.args in
    size-done a.lengths.now a.piece_length a.piece.0 a.total.0 (rules-kept (goal.at.returns c).Else-not-keeps_rules) c.piece_bytes.result c.piece_bytes.ensures (omega arith)
