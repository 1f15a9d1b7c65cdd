-- `torrent_authoring::size` meets its contract. Assumes nothing.
use Rattle.std.proofs.Common.{Err, ◌≡◌, sym, ◌∙◌, true, arith, ap, not}
use borrow.Author.Tests.{not-true, not-false}
use Rattle.torrent_blocks.specs.Rules.{piece_length_of, file_length, total_and}
use Rattle.torrent_metainfo.specs.Rules.{good_name}
use Rattle.torrent_authoring.specs.Writing.{fields}
use Rattle.torrent_authoring.specs.Rules.{piece_count_of, Ruled, bad_name, bad-piece, bad-file, bad-total, bad-pieces}
use Rattle.torrent_authoring.proofs.Putting.{size}
use Rattle.torrent_authoring.proofs.Steps.{at_least, hashes-right, hashes-wrong, size-broken, size-long, size-short}
use Rattle.torrent_authoring.proofs.size.Goals as goal
use Rattle.torrent_authoring.proofs.size.Goals.{Else-not-legal_file_length, Else-not-legal_name, Else-not-legal_piece_length, Else-not-legal_total, Else-pieces-count}

-- what each test that was passed says
good : (c : Else-not-legal_name) → good_name c.args.name.now ≡ true
good c = sym c.legal_name.ensures ∙ not-false c.legal_name.result (ap not c.if-not-legal_name.false)

piece : (c : Else-not-legal_piece_length) → piece_length_of c.args.piece_length ≡ true
piece c = sym c.legal_piece_length.ensures ∙ not-false c.legal_piece_length.result (ap not c.if-not-legal_piece_length.false)

file : (c : Else-not-legal_file_length) → file_length c.args.length ≡ true
file c = sym c.legal_file_length.ensures ∙ not-false c.legal_file_length.result (ap not c.if-not-legal_file_length.false)

total : (c : Else-not-legal_total) → total_and c.args.length (piece_count_of (fields c.args.announce.now c.args.name.now c.args.piece_length c.args.pieces.now c.args.length)) ≡ true
total c = sym c.legal_total.ensures ∙ not-false c.legal_total.result (ap not c.if-not-legal_total.false)

ruled : (c : Else-pieces-count) → Ruled (fields c.args.announce.now c.args.name.now c.args.piece_length c.args.pieces.now c.args.length)
ruled c =
    record {
      name = sym c.legal_name.ensures ∙ not-false c.legal_name.result (ap not c.if-not-legal_name.false);
      piece = sym c.legal_piece_length.ensures ∙ not-false c.legal_piece_length.result (ap not c.if-not-legal_piece_length.false);
      file = sym c.legal_file_length.ensures ∙ not-false c.legal_file_length.result (ap not c.if-not-legal_file_length.false);
      total = sym c.legal_total.ensures ∙ not-false c.legal_total.result (ap not c.if-not-legal_total.false);
      hashes = hashes-right (fields c.args.announce.now c.args.name.now c.args.piece_length c.args.pieces.now c.args.length) c.pieces-count.result c.pieces-count.ensures (omega arith);
    }

pub returns-then-not-legal_name : goal.returns-then-not-legal_name
returns-then-not-legal_name c =
    let a = c.args in
    let f = fields a.announce.now a.name.now a.piece_length a.pieces.now a.length in
    size-broken f (bad_name (sym c.legal_name.ensures ∙ not-true c.legal_name.result (ap not c.if-not-legal_name.true))) (ap Err c.refuse.ensures)

pub returns-then-not-legal_piece_length : goal.returns-then-not-legal_piece_length
returns-then-not-legal_piece_length c =
    let a = c.args in
    let f = fields a.announce.now a.name.now a.piece_length a.pieces.now a.length in
    size-broken f (bad-piece (good (goal.at.returns-then-not-legal_piece_length c).Else-not-legal_name) (sym c.legal_piece_length.ensures ∙ not-true c.legal_piece_length.result (ap not c.if-not-legal_piece_length.true))) (ap Err c.refuse-then-not-legal_piece_length.ensures)

pub returns-then-not-legal_file_length : goal.returns-then-not-legal_file_length
returns-then-not-legal_file_length c =
    let a = c.args in
    let f = fields a.announce.now a.name.now a.piece_length a.pieces.now a.length in
    size-broken f (bad-file (good (goal.at.returns-then-not-legal_file_length c).Else-not-legal_name) (piece (goal.at.returns-then-not-legal_file_length c).Else-not-legal_piece_length) (sym c.legal_file_length.ensures ∙ not-true c.legal_file_length.result (ap not c.if-not-legal_file_length.true))) (ap Err c.refuse-then-not-legal_file_length.ensures)

pub returns-then-not-legal_total : goal.returns-then-not-legal_total
returns-then-not-legal_total c =
    let a = c.args in
    let f = fields a.announce.now a.name.now a.piece_length a.pieces.now a.length in
    size-broken f (bad-total (good (goal.at.returns-then-not-legal_total c).Else-not-legal_name) (piece (goal.at.returns-then-not-legal_total c).Else-not-legal_piece_length) (file (goal.at.returns-then-not-legal_total c).Else-not-legal_file_length) (sym c.legal_total.ensures ∙ not-true c.legal_total.result (ap not c.if-not-legal_total.true))) (ap Err c.refuse-then-not-legal_total.ensures)

pub returns-then-pieces-count : goal.returns-then-pieces-count
returns-then-pieces-count c =
    let a = c.args in
    let f = fields a.announce.now a.name.now a.piece_length a.pieces.now a.length in
    size-broken f (bad-pieces (good (goal.at.returns-then-pieces-count c).Else-not-legal_name) (piece (goal.at.returns-then-pieces-count c).Else-not-legal_piece_length) (file (goal.at.returns-then-pieces-count c).Else-not-legal_file_length) (total (goal.at.returns-then-pieces-count c).Else-not-legal_total) (hashes-wrong f c.pieces-count.result c.pieces-count.ensures (omega arith))) (ap Err c.refuse-then-pieces-count.ensures)

pub returns-then-announce-gt-TEXT : goal.returns-then-announce-gt-TEXT
returns-then-announce-gt-TEXT c =
    let a = c.args in
    let f = fields a.announce.now a.name.now a.piece_length a.pieces.now a.length in
    size-long f (ruled (goal.at.returns-then-announce-gt-TEXT c).Else-pieces-count) (omega (arith, at_least f)) (ap Err c.refuse-then-announce-gt-TEXT.ensures)

pub returns-then-name-gt-TEXT : goal.returns-then-name-gt-TEXT
returns-then-name-gt-TEXT c =
    let a = c.args in
    let f = fields a.announce.now a.name.now a.piece_length a.pieces.now a.length in
    size-long f (ruled (goal.at.returns-then-name-gt-TEXT c).Else-pieces-count) (omega (arith, at_least f)) (ap Err c.refuse-then-name-gt-TEXT.ensures)

pub returns-then-bytes-gt-TEXT : goal.returns-then-bytes-gt-TEXT
returns-then-bytes-gt-TEXT c =
    let a = c.args in
    let f = fields a.announce.now a.name.now a.piece_length a.pieces.now a.length in
    size-long f (ruled (goal.at.returns-then-bytes-gt-TEXT c).Else-pieces-count) (omega (arith, size f, c.string_size.ensures.0, c.string_size-2.ensures.0, c.string_size-3.ensures.0, c.digits.ensures.0, c.digits-2.ensures.0)) (ap Err c.refuse-then-bytes-gt-TEXT.ensures)

pub returns : goal.returns
returns c =
    let a = c.args in
    let f = fields a.announce.now a.name.now a.piece_length a.pieces.now a.length in
    size-short f (ruled (goal.at.returns c).Else-pieces-count) (omega (arith, size f, c.string_size.ensures.0, c.string_size-2.ensures.0, c.string_size-3.ensures.0, c.digits.ensures.0, c.digits-2.ensures.0)) (omega arith)
