-- Statement 4 of demand 1: "Given exactly when". Each number of document 01's table in its order: under the table's line, call by call, that the number
-- is given at a place exactly when its cause holds there, by every answer r that the contract of the call permits. A cause says that the checks before it are
-- passed. The causes: bencode_laws/specs/Causes (1, 2, 3, 5, 6, 7), torrent_laws/specs/Causes and tracker/specs/Causes (10 to 15), torrent_blocks/specs/Covers,
-- sheets/specs/Causes (10 and 15 of a sheet), week_laws/specs/Causes (18), links_laws/specs/Causes (19), peer_wire/specs/Causes (20 to 23, wait), torrent_authoring/specs/Rules and tracker/specs/Faults (the writers),
-- yard_laws/specs/Causes and Damage (the yard's words), and demands_laws/specs/Causes. Of the yard r is the number that C gets: `Permits t c r z` is the contract of the call c on the tables t, and `Made lent h
-- (found t)` says that the tables `lent`, started and then called any way, have become these, and h is what happened (Program.antt). Assumes nothing.
use Rattle.refusal.specs.declared.Refusal.{Refusal}
use Rattle.week.specs.declared.Entry.{Entry as PackageEntry}
use Rattle.std.specs.Prelude.{◌≡◌, refl, ◌⊎◌, ◌↔◌, true, false, List, ℕ, ◌+◌, ◌*◌, ◌^◌, ◌≤◌, ◌<◌, length, get_or, Bool, Option, Result}
use Rattle.std.proofs.Common.{sym, ◌∙◌, arith}
use mathlib.Core.Logic.Iff
use Rattle.refusal.specs.Paper.{paper, taken, refused}
use Rattle.refusal.specs.Limits.{most_text, longest_piece, longest_frame}
use Rattle.bencode_writer.proofs.Puts as puts-laws
use Rattle.bencode.specs.Value as value
use Rattle.bencode.specs.Value.{Value}
use Rattle.bencode.specs.Decode.{decode}
use Rattle.bencode_laws.specs.Causes.{Cut, Byte, Order, Deep, Many, After}
use Rattle.bencode_laws.proofs.Laws as laws
use Rattle.hash_sha1.specs.declared.stream.Stream.{Stream}
use Rattle.torrent_blocks.specs.Spans.{joined_files}
use Rattle.torrent_blocks.specs.Answers.{spot, place_paper}
use Rattle.torrent_blocks.specs.Covers.{BlockCause, ByteCause, SizeCause}
use Rattle.torrent_blocks.specs.declared.PieceNumber.{PieceNumber}
use Rattle.torrent_blocks.specs.declared.PieceOffset.{PieceOffset}
use Rattle.torrent_blocks.specs.declared.Spot.{Spot}
use Rattle.peer_wire.specs.Frames as frames
use Rattle.peer_wire.specs.Frames.{Allowed, read_paper}
use Rattle.peer_wire.specs.Handshake as handshake
use Rattle.peer_wire.specs.Handshake.{greeting_paper}
use Rattle.peer_wire.specs.Causes as causes
use Rattle.peer_wire.specs.Causes.{TooLong, All, Right, Few, Misnamed, Named, info_in}
use Rattle.peer_wire.specs.declared.Greeting.{Greeting}
use Rattle.peer_wire.specs.declared.Read.{Read}
use Rattle.peer_wire.proofs.Decided.{wait-exactly}
use Rattle.peer_wire.proofs.Shaking.{shake-wait-exactly}
use Rattle.tracker.specs.Reply.{Answer}
use Rattle.tracker.specs.Reading.{entries_in, peer_paper, reply_paper}
use Rattle.tracker.specs.Faults.{NotWritten}
use Rattle.tracker.specs.declared.Reply.{Reply}
use Rattle.tracker.specs.declared.Found.{Found as PeerFound}
use Rattle.sheets.specs.Causes.{NoSheetText}
use Rattle.sheets.specs.Reading.{of, told}
use Rattle.sheets.specs.declared.Source.TheVariants.{Torrent as OfTorrent, Sheet as OfSheet}
use Rattle.sheets.specs.declared.Found as address
use Rattle.links.specs.Link.{Meaning}
use Rattle.links_laws.specs.Form.{IsLink}
use Rattle.links_laws.specs.Causes.{Fault}
use Rattle.links.specs.Reading.{size_of, linked_paper}
use Rattle.week.specs.declared.Week.{Week}
use Rattle.week_laws.specs.Causes.{Number, Counts, NoTable, NoWeek, NoEntry, Unwritten}
use Rattle.week_laws.proofs.Laws as week-laws
use Rattle.week_laws.proofs.Numbers as week-numbers
use Rattle.week_laws.proofs.Back as week-back
use Rattle.torrent_metainfo.specs.declared.Torrent.{Torrent}
use Rattle.torrent_authoring.specs.Rules as rules
use Rattle.torrent_laws.specs.Torrent.{TorrentSays, IsTorrent}
use Rattle.torrent_laws.specs.Causes.{NoTorrentText}
use Rattle.torrent_laws.proofs.Laws as torrents
use Rattle.peer_wire.specs.Message.{Message, have, piece, bitfield as bits}
use Rattle.yard_tables.specs.Rows.{width, bit_at}
use Rattle.yard_tables.specs.Tables.{Yard}
use Rattle.yard_tables.specs.Step.{Call, start, sit, feed, missing, look, has, count}
use Rattle.yard_laws.specs.History.{History, sizes_of, seated, fresh, Spoke, pieces, sent, came_in, block_in_of}
use Rattle.yard_laws.specs.Causes.{Sits, Nobody, On, Marks, Says, SpeaksOf, Fits, StartFits}
use Rattle.yard_laws.specs.Run.{fixed_by}
use Rattle.yard_laws.specs.Damage.{Unfit, Damaged}
use Rattle.yard_laws.proofs.Damage as damage
use Rattle.yard_laws.proofs.Keepalive as keepalive
use Rattle.torrent_contents.specs.declared.Entry.{Entry as FileEntry}
use Rattle.refusal.specs.declared.Part.{Part}
use Rattle.demands_laws.specs.Texts.{Encodes, link_of}
use Rattle.demands_laws.specs.Causes.{Unchecked, Unsized, NoReplyText}
use Rattle.demands_laws.proofs.Refusals.{given, map-refused, same_answer, left-answer}
use Rattle.demands_laws.proofs.Readers.{decode-8}
use Rattle.demands_laws.proofs.Numbered.{number-given, number-never, number-waits}
use Rattle.demands_laws.proofs.Reasons.{At}
use Rattle.demands_laws.proofs.Replies as replies-laws
use Rattle.demands_laws.proofs.Sheets as sheets-laws
use Rattle.demands_laws.proofs.Links as links-laws
use Rattle.demands_laws.proofs.Weeks as weeks
use Rattle.demands_laws.proofs.Contents as contents-laws
use Rattle.demands_laws.proofs.Digests as digests
use Rattle.demands_laws.proofs.Frames as framing
use Rattle.demands_laws.proofs.Blocks as blocks-laws
use Rattle.demands_laws.proofs.Writers as writers
use Rattle.demands_laws.proofs.Tables.{no-wait}
use Rattle.demands_laws.proofs.Only as only
use Rattle.demands_laws.proofs.Runs as runs
use Rattle.demands.specs.Program.{Tables, found, Permits, Made}
use Rattle.demands.proofs.Program.{permits-step, made-run}
use Rattle.demands.specs.One.{Lent, before}
use Rattle.demands.specs.One.Alike.{asked, Reader, answer_of, Refuses, a-look, an-entry, a-search, a-skip, file-at, element-at, packed-at, listed-at, a-week, a-package, a-table, package-at, a-week-written, a-link, Frames, Puts}
use Rattle.demands.proofs.One.Alike.{as-decoded, as-framed, as-put}
use Rattle.demands.proofs.One.Only as calls
use Rattle.demands.proofs.One.Looks as looks
use Rattle.demands.specs.One.Doors.Bencode as bencode
use Rattle.demands.specs.One.Doors.Metainfo as metainfo
use Rattle.demands.specs.One.Doors.Contents as contents
use Rattle.demands.specs.One.Doors.Authoring as authoring
use Rattle.demands.specs.One.Doors.Tracker as tracker
use Rattle.demands.specs.One.Doors.TrackerWriting as replies
use Rattle.demands.specs.One.Doors.Sheets as sheets
use Rattle.demands.specs.One.Doors.Links as links
use Rattle.demands.specs.One.Doors.Week as week
use Rattle.demands.specs.One.Doors.Blocks as blocks
use Rattle.demands.specs.One.Doors.Wire as wire
use Rattle.demands.specs.One.Doors.Sha1 as sha1

-- what C gets of a yard, after an accepted start and any calls
yard-given : (lent : Yard) (h : History) (t : Tables) → Made lent h (found t) → (c : Call) (r : ℕ) (z : Yard) → Permits t c r z
    → (number : ℕ) → 1 ≤ number → number < 255 → r ≡ number ↔ At (fixed_by lent) h c number
yard-given lent h t m c r z e number a b = number-given (permits-step t c r z e).0 number a b (runs.given lent h (found t) (made-run lent h (found t) m) c number)

-- ---- calls that refuse as another does: each number below is then given as by that one
-- 1 to 7 are said of all of them at once: `answer_of r` is the answer of any call r that reads the text as bencode first (Alike.antt): bencode::check,
-- torrent_metainfo::read and info_hash, torrent_contents::file, piece_hash and check_piece, tracker::read and peer, sheets::find of each of its texts, of the
-- sheet once the torrent is taken, and links::write and links::size

-- `torrent_metainfo::info_hash` as `torrent_metainfo::read`
pub info_hash-alike : (text : Lent (List ℕ)) (r : Result (Unit {0}) Refusal) (out : Lent (List ℕ)) → metainfo.info_hash-ensures text r out → (q : Result Torrent Refusal) → metainfo.read-ensures text q → (k p : ℕ) → paper r ≡ refused k p ↔ paper q ≡ refused k p
info_hash-alike text r out e q f k p = Iff.trans (left-answer e) (Iff.trans (contents-laws.info_hash-alike (before text) (before out) k p) (same_answer (sym f)))

-- `torrent_contents::piece_hash` as `torrent_metainfo::read`, but for 31
pub piece_hash-alike : (text : Lent (List ℕ)) (n : PieceNumber) (r : Result Part Refusal) → contents.piece_hash-ensures text n r → (q : Result Torrent Refusal) → metainfo.read-ensures text q → (k p : ℕ) → (k ≡ 31 → ⊥) → paper r ≡ refused k p ↔ paper q ≡ refused k p
piece_hash-alike text n r e q f k p l = Iff.trans (same_answer e) (Iff.trans (contents-laws.hash-alike (before text) n.0 k p l) (same_answer (sym f)))

-- `torrent_contents::file` as `torrent_metainfo::read`, but for 31
pub file-alike : (text : Lent (List ℕ)) (n : ℕ) (r : Result FileEntry Refusal) → contents.file-ensures text n r → (q : Result Torrent Refusal) → metainfo.read-ensures text q → (k p : ℕ) → (k ≡ 31 → ⊥) → paper r ≡ refused k p ↔ paper q ≡ refused k p
file-alike text n r e q f k p l = Iff.trans (same_answer e) (Iff.trans (contents-laws.file-alike (before text) n k p l) (same_answer (sym f)))

-- `torrent_contents::check_piece` as `torrent_metainfo::read`, but for 8, 31 and 34
pub piece-check-alike : (text : Lent (List ℕ)) (n : PieceNumber) (bytes : Lent (List ℕ)) (r : Result Bool Refusal) → contents.check_piece-ensures text n bytes r → (q : Result Torrent Refusal) → metainfo.read-ensures text q → (k p : ℕ) → paper r ≡ refused k p ↔ ((paper q ≡ refused k p) ⊎ ((t : Torrent) × (paper q ≡ taken t) × Unchecked t n.0 (before bytes) k × (p ≡ 0)))
piece-check-alike text n bytes r e q f k p = rw f (Iff.trans (same_answer e) (contents-laws.check-exactly (before text) n.0 (before bytes) k p))

-- `tracker::peer` as `tracker::read`, but for 31
pub peer-alike : (text : Lent (List ℕ)) (n : ℕ) (r : Result PeerFound Refusal) → tracker.peer-ensures text n r → (q : Result Reply Refusal) → tracker.read-ensures text q → (k p : ℕ) → (k ≡ 31 → ⊥) → peer_paper r ≡ refused k p ↔ reply_paper q ≡ refused k p
peer-alike text n r e q f k p l = Iff.trans (same_answer e) (Iff.trans (replies-laws.peer-alike (before text) n k p l) (same_answer (sym f)))

-- `sheets::find`, of the torrent, as `torrent_metainfo::read`
pub find-alike : (torrent sheet : Lent (List ℕ)) (r : address.Found) → sheets.find-ensures torrent sheet r → (q : Result Torrent Refusal) → metainfo.read-ensures torrent q → (k p : ℕ) → told r ≡ of OfTorrent (refused k p) ↔ paper q ≡ refused k p
find-alike torrent sheet r e q f k p = Iff.trans (same_answer e) (Iff.trans (sheets-laws.of-torrent (before torrent) (before sheet) k p) (same_answer (sym f)))

-- and of the sheet only where that takes the torrent
pub sheet-after : (torrent sheet : Lent (List ℕ)) (r : address.Found) → sheets.find-ensures torrent sheet r → (q : Result Torrent Refusal) → metainfo.read-ensures torrent q → (k p : ℕ) → told r ≡ of OfSheet (refused k p) → (t : Torrent) × (paper q ≡ taken t)
sheet-after torrent sheet r e q f k p x = let (t, h) = sheets-laws.sheet-after (before torrent) (before sheet) k p (sym e ∙ x) in (t, f ∙ h)

-- `links::write`, of the torrent, as `torrent_metainfo::read`, but for 8 and 37
pub write-link-alike : (torrent : Lent (List ℕ)) (r : Result ℕ Refusal) (out : Lent (List ℕ)) → links.write-ensures torrent r out → (q : Result Torrent Refusal) → metainfo.read-ensures torrent q → (k p : ℕ) → (k ≡ 8 → ⊥) → (k ≡ 37 → ⊥) → paper r ≡ refused k p ↔ paper q ≡ refused k p
write-link-alike torrent r out e q f k p h l = Iff.trans (left-answer e) (Iff.trans (links-laws.write-alike (before torrent) (before out) k p h l) (same_answer (sym f)))

-- `links::size` as `torrent_metainfo::read`, but for 8
pub link-size-alike : (torrent : Lent (List ℕ)) (r : Result ℕ Refusal) → links.size-ensures torrent r → (q : Result Torrent Refusal) → metainfo.read-ensures torrent q → (k p : ℕ) → (k ≡ 8 → ⊥) → paper r ≡ refused k p ↔ paper q ≡ refused k p
link-size-alike torrent r e q f k p h = Iff.trans (same_answer e) (Iff.trans (links-laws.size-alike (before torrent) k p h) (same_answer (sym f)))

-- `week::read`: the first check that fails. A body is refused as a torrent's text is (`read_of`, by which that reader's contract speaks), its place counted from the file's first byte
pub week-refused : (file : Lent (List ℕ)) (r : Result Week Refusal) → week.read-ensures file r → (k p : ℕ) → paper r ≡ refused k p ↔ NoWeek (before file) k p
week-refused file r e k p = Iff.trans (same_answer e) (week-laws.week-faults (before file) k p)

-- `week::package` as `week::read`, but for 31
pub week-package-alike : (file : Lent (List ℕ)) (index : ℕ) (r : Result PackageEntry Refusal) → week.package-ensures file index r → (q : Result Week Refusal) → week.read-ensures file q → (k p : ℕ) → (k ≡ 31 → ⊥) → paper r ≡ refused k p ↔ paper q ≡ refused k p
week-package-alike file index r e q f k p l = Iff.trans (same_answer e) (Iff.trans (weeks.package-alike (before file) index k p l) (same_answer (sym f)))

-- `week::package_at`: the same of a package by its own entry
pub package_at-refused : (file : Lent (List ℕ)) (index : ℕ) (r : Result PackageEntry Refusal) → week.package_at-ensures file index r → (k p : ℕ) → paper r ≡ refused k p ↔ NoEntry (before file) index k p
package_at-refused file index r e k p = Iff.trans (same_answer e) (week-laws.entry-faults (before file) index k p)

-- `week::write`: the same of bodies, and all at place 0
pub week-writer-refused : (bodies lengths : Lent (List ℕ)) (r : Result ℕ Refusal) (out : Lent (List ℕ)) → week.write-ensures bodies lengths r out → (k p : ℕ) → paper r ≡ refused k p ↔ ((p ≡ 0) × Unwritten (before bodies) (before lengths) (length (before out)) k)
week-writer-refused bodies lengths r out e k p = Iff.trans (left-answer e) (week-back.write-refused (before bodies) (before lengths) (before out) k p)

-- ---- 1: "the text ends where a byte is needed, or a string's length exceeds the bytes left after its colon; place: the text's length"

-- given by every call r that reads a text
pub text-1 : (text : Lent (List ℕ)) (r : Reader text) (p : ℕ) → length (before text) ≤ most_text → answer_of r ≡ refused 1 p ↔ Cut (before text) p
text-1 text r p h = Iff.trans (as-decoded text r 1 p (omega arith)) (laws.cut-law (before text) p h)

-- ---- 2: "a byte that cannot stand there; its offset"

-- given by every call r that reads a text
pub text-2 : (text : Lent (List ℕ)) (r : Reader text) (p : ℕ) → length (before text) ≤ most_text → answer_of r ≡ refused 2 p ↔ Byte (before text) p
text-2 text r p h = Iff.trans (as-decoded text r 2 p (omega arith)) (laws.byte-law (before text) p h)

-- ---- 3: "a key not greater than the one before; offset of its first digit"

-- given by every call r that reads a text
pub text-3 : (text : Lent (List ℕ)) (r : Reader text) (p : ℕ) → length (before text) ≤ most_text → answer_of r ≡ refused 3 p ↔ Order (before text) p
text-3 text r p h = Iff.trans (as-decoded text r 3 p (omega arith)) (laws.order-law (before text) p h)

-- ---- 4: "integer outside -2^63 .. 2^63-1; offset of its i", and change request 8: "4 is never given again"

-- given by no call r that reads a text, whatever the text
pub text-4 : (text : Lent (List ℕ)) (r : Reader text) (p : ℕ) → answer_of r ≡ refused 4 p → ⊥
text-4 text r p e = (laws.none_other (before text) 4 p ((as-decoded text r 4 p (omega arith)).0 e)).2 refl

-- nor by any other: no look at a place of a text, nothing that is asked of a week's file or of a link
pub other-4 : (k p : ℕ) → Refuses k p → k ≡ 4 → ⊥
unfolding only.has
other-4 k p (a-look text at r c e) = only.without _ 4 refl (looks.look-no-other text at r c k p e)
other-4 k p (an-entry text at r c e) = only.without _ 4 refl (looks.entry-no-other text at r c k p e)
other-4 k p (a-search text at key r c e) = only.without _ 4 refl (looks.seek-no-other text at key r c k p e)
other-4 k p (a-skip text at r c e) = only.without _ 4 refl (looks.skip-no-other text at r c k p e)
other-4 k p (file-at text at r c e) = only.without _ 4 refl (looks.file_at-no-other text at r c k p e)
other-4 k p (element-at text at r c e) = only.without _ 4 refl (looks.element_at-no-other text at r c k p e)
other-4 k p (packed-at text at r c e) = only.without _ 4 refl (looks.packed_at-no-other text at r c k p e)
other-4 k p (listed-at text at r c e) = only.without _ 4 refl (looks.listed_at-no-other text at r c k p e)
other-4 k p (a-week file r c e) = only.without _ 4 refl (calls.week-no-other file r c k p e)
other-4 k p (a-package file index r c e) = only.without _ 4 refl (calls.week-package-no-other file index r c k p e)
other-4 k p (a-table file r c e) = only.without _ 4 refl (calls.week-table-no-other file r c k p e)
other-4 k p (package-at file index r c e) = only.without _ 4 refl (calls.package_at-no-other file index r c k p e)
other-4 k p (a-week-written bodies lengths r out c e) = only.without _ 4 refl (calls.week-writer-no-other bodies lengths r out c k p e)
other-4 k p (a-link text r hash name address c e) = only.without _ 4 refl (calls.link-no-other text r hash name address c k p e)

-- ---- 5: "list or dictionary at level 33; its offset"

-- given by every call r that reads a text
pub text-5 : (text : Lent (List ℕ)) (r : Reader text) (p : ℕ) → length (before text) ≤ most_text → answer_of r ≡ refused 5 p ↔ Deep (before text) p
text-5 text r p h = Iff.trans (as-decoded text r 5 p (omega arith)) (laws.deep-law (before text) p h)

-- ---- 6: "value number 16,385 begins; its offset"

-- given by every call r that reads a text
pub text-6 : (text : Lent (List ℕ)) (r : Reader text) (p : ℕ) → length (before text) ≤ most_text → answer_of r ≡ refused 6 p ↔ Many (before text) p
text-6 text r p h = Iff.trans (as-decoded text r 6 p (omega arith)) (laws.many-law (before text) p h)

-- ---- 7: "bytes after the value; the first"

-- given by every call r that reads a text
pub text-7 : (text : Lent (List ℕ)) (r : Reader text) (p : ℕ) → length (before text) ≤ most_text → answer_of r ≡ refused 7 p ↔ After (before text) p
text-7 text r p h = Iff.trans (as-decoded text r 7 p (omega arith)) (laws.after-law (before text) p h)

-- ---- 8: "text (no frame or handshake) to read or write over 1,048,576 bytes, or piece to hash over 16,777,216; place 0"; of the looks at a place: Looks.antt

-- given by bencode::check
pub check-8 : (text : Lent (List ℕ)) (r : Result ℕ Refusal) → bencode.check-ensures text r → (p : ℕ) → paper r ≡ refused 8 p ↔ ((most_text < length (before text)) × (p ≡ 0))
check-8 text r e p = Iff.trans (same_answer e.0) (Iff.trans (map-refused value.count (decode (before text)) 8 p) (decode-8 (before text) p))

-- given by torrent_metainfo::read
pub torrent-8 : (text : Lent (List ℕ)) (r : Result Torrent Refusal) → metainfo.read-ensures text r → (p : ℕ) → paper r ≡ refused 8 p ↔ ((most_text < length (before text)) × (p ≡ 0))
torrent-8 text r e p = Iff.trans (same_answer e) (torrents.long-law (before text) p)

-- given by tracker::read
pub reply-8 : (text : Lent (List ℕ)) (r : Result Reply Refusal) → tracker.read-ensures text r → (p : ℕ) → reply_paper r ≡ refused 8 p ↔ ((most_text < length (before text)) × (p ≡ 0))
reply-8 text r e p = Iff.trans (same_answer e) (Iff.trans (replies-laws.reply-bencode (before text) 8 p (omega arith)) (decode-8 (before text) p))

-- given by sheets::find, of the sheet, once the torrent is taken
pub sheet-8 : (torrent sheet : Lent (List ℕ)) (r : address.Found) → sheets.find-ensures torrent sheet r → (q : Result Torrent Refusal) → metainfo.read-ensures torrent q → (t : Torrent) → paper q ≡ taken t → (p : ℕ) → told r ≡ of OfSheet (refused 8 p) ↔ ((most_text < length (before sheet)) × (p ≡ 0))
sheet-8 torrent sheet r e q f t h p = Iff.trans (same_answer e) (sheets-laws.sheet-8 (before torrent) (before sheet) t (sym f ∙ h) p)

-- given by hash_sha1::digest
pub digest-8 : (message : Lent (List ℕ)) (r : Result (Unit {0}) Refusal) (out : Lent (List ℕ)) → sha1.digest-ensures message r out → (p : ℕ) → paper r ≡ refused 8 p ↔ ((longest_piece < length (before message)) × (p ≡ 0))
digest-8 message r out e p = Iff.trans (left-answer e) (given (digests.digest-exactly (before message) (before out) 8 p))

-- given by hash_sha1::stream::finish
pub finish-8 : (s : Stream) (r : Result (Unit {0}) Refusal) (out : Lent (List ℕ)) → sha1.finish-ensures s r out → (p : ℕ) → paper r ≡ refused 8 p ↔ ((longest_piece < s.length) × (p ≡ 0))
finish-8 s r out e p = Iff.trans (left-answer e) (given (digests.finish-exactly s (before out) 8 p))

-- given by hash_sha1::agrees
pub agrees-8 : (message expected : Lent (List ℕ)) (r : Result Bool Refusal) → sha1.agrees-ensures message expected r → (p : ℕ) → paper r ≡ refused 8 p ↔ ((longest_piece < length (before message)) × (p ≡ 0))
agrees-8 message expected r e p = Iff.trans (same_answer e) (given (digests.agreement-exactly (before message) (before expected) 8 p))

-- given by torrent_contents::check_piece
pub piece-check-8 : (text : Lent (List ℕ)) (n : PieceNumber) (bytes : Lent (List ℕ)) (r : Result Bool Refusal) → contents.check_piece-ensures text n bytes r → (q : Result Torrent Refusal) → metainfo.read-ensures text q → (p : ℕ) → paper r ≡ refused 8 p ↔ ((paper q ≡ refused 8 p) ⊎ ((t : Torrent) × (paper q ≡ taken t) × Unchecked t n.0 (before bytes) 8 × (p ≡ 0)))
piece-check-8 text n bytes r e q f p = rw f (Iff.trans (same_answer e) (contents-laws.check-exactly (before text) n.0 (before bytes) 8 p))

-- given by tracker::writing::write
pub reply-writer-8 : (interval : ℕ) (peers : Lent (List ℕ)) (r : Result ℕ Refusal) (out : Lent (List ℕ)) → replies.write-ensures interval peers r out → (p : ℕ) → paper r ≡ refused 8 p ↔ (NotWritten interval (before peers) (before out) 8 × (p ≡ 0))
reply-writer-8 interval peers r out e p = Iff.trans (left-answer e) (writers.reply-written interval (before peers) (before out) 8 p)

-- given by torrent_authoring::write
pub torrent-writer-8 : (announce name : Lent (List ℕ)) (pl : ℕ) (pieces : Lent (List ℕ)) (len : ℕ) (r : Result ℕ Refusal) (out : Lent (List ℕ)) → authoring.write-ensures announce name pl pieces len r out → (p : ℕ) → paper r ≡ refused 8 p ↔ (rules.NotWritten (asked announce name pl pieces len) (before out) 8 × (p ≡ 0))
torrent-writer-8 announce name pl pieces len r out e p = Iff.trans (left-answer e) (writers.torrent-written (asked announce name pl pieces len) (before out) 8 p)

-- given by torrent_authoring::size
pub torrent-size-8 : (announce name : Lent (List ℕ)) (pl : ℕ) (pieces : Lent (List ℕ)) (len : ℕ) (r : Result ℕ Refusal) → authoring.size-ensures announce name pl pieces len r → (p : ℕ) → paper r ≡ refused 8 p ↔ (Unsized (asked announce name pl pieces len) 8 × (p ≡ 0))
torrent-size-8 announce name pl pieces len r e p = Iff.trans (same_answer e) (writers.torrent-sized (asked announce name pl pieces len) 8 p)

-- given by links::read
pub link-8 : (text : Lent (List ℕ)) (r : Result (Option ℕ × Option ℕ) Refusal) (hash name address : Lent (List ℕ)) → links.read-ensures text r hash name address → (p : ℕ) → linked_paper r ≡ refused 8 p ↔ ((most_text < length (before text)) × (p ≡ 0))
link-8 text r hash name address e p = Iff.trans (links-laws.read_answer e) (links-laws.read-8 (before text) (before hash) (before name) (before address) p)

-- given by links::write: the torrent's text is too long, or its link would be
pub write-link-8 : (torrent : Lent (List ℕ)) (r : Result ℕ Refusal) (out : Lent (List ℕ)) → links.write-ensures torrent r out → (p : ℕ) → paper r ≡ refused 8 p ↔ (((most_text < length (before torrent)) ⊎ ((v : Value) × (t : TorrentSays) × Encodes (before torrent) v × IsTorrent v t × (most_text < length (link_of t)))) × (p ≡ 0))
write-link-8 torrent r out e p = Iff.trans (left-answer e) (links-laws.write-8 (before torrent) (before out) p)

-- given by links::size: the same
pub link-size-8 : (torrent : Lent (List ℕ)) (r : Result ℕ Refusal) → links.size-ensures torrent r → (p : ℕ) → paper r ≡ refused 8 p ↔ (((most_text < length (before torrent)) ⊎ ((v : Value) × (t : TorrentSays) × Encodes (before torrent) v × IsTorrent v t × (most_text < length (link_of t)))) × (p ≡ 0))
link-size-8 torrent r e p = Iff.trans (same_answer e) (links-laws.size-8 (before torrent) p)

-- given by week::read
pub week-8 : (file : Lent (List ℕ)) (r : Result Week Refusal) → week.read-ensures file r → (p : ℕ) → paper r ≡ refused 8 p ↔ ((most_text < length (before file)) × (p ≡ 0))
week-8 file r e p = Iff.trans (same_answer e) (week-numbers.week-8 (before file) p)

-- given by week::table
pub week-table-8 : (file : Lent (List ℕ)) (r : Result ℕ Refusal) → week.table-ensures file r → (p : ℕ) → paper r ≡ refused 8 p ↔ ((most_text < length (before file)) × (p ≡ 0))
week-table-8 file r e p = Iff.trans (same_answer e) (week-numbers.table-8 (before file) p)

-- given by week::package_at
pub package_at-8 : (file : Lent (List ℕ)) (index : ℕ) (r : Result PackageEntry Refusal) → week.package_at-ensures file index r → (p : ℕ) → paper r ≡ refused 8 p ↔ ((most_text < length (before file)) × (p ≡ 0))
package_at-8 file index r e p = Iff.trans (same_answer e) (week-numbers.entry-8 (before file) index p)

-- given by week::write
pub week-writer-8 : (bodies lengths : Lent (List ℕ)) (r : Result ℕ Refusal) (out : Lent (List ℕ)) → week.write-ensures bodies lengths r out → (p : ℕ) → paper r ≡ refused 8 p ↔ ((p ≡ 0) × Unwritten (before bodies) (before lengths) (length (before out)) 8)
week-writer-8 bodies lengths r out e p = Iff.trans (left-answer e) (week-back.write-refused (before bodies) (before lengths) (before out) 8 p)

-- ---- 10: "key missing (offset of its dictionary), value of the wrong kind (its offset)"

-- given by torrent_metainfo::read
pub torrent-10 : (text : Lent (List ℕ)) (r : Result Torrent Refusal) → metainfo.read-ensures text r → (p : ℕ) → paper r ≡ refused 10 p ↔ NoTorrentText (before text) 10 p
torrent-10 text r e p = Iff.trans (same_answer e) (torrents.kind-law (before text) p)

-- given by tracker::read
pub reply-10 : (text : Lent (List ℕ)) (r : Result Reply Refusal) → tracker.read-ensures text r → (p : ℕ) → reply_paper r ≡ refused 10 p ↔ NoReplyText (before text) 10 p
reply-10 text r e p = Iff.trans (same_answer e) (replies-laws.reply-own (before text) 10 p (omega arith))

-- given by sheets::find, of the sheet, once the torrent is taken
pub sheet-10 : (torrent sheet : Lent (List ℕ)) (r : address.Found) → sheets.find-ensures torrent sheet r → (q : Result Torrent Refusal) → metainfo.read-ensures torrent q → (t : Torrent) → paper q ≡ taken t → (p : ℕ) → told r ≡ of OfSheet (refused 10 p) ↔ NoSheetText (before sheet) 10 p
sheet-10 torrent sheet r e q f t h p = Iff.trans (same_answer e) (sheets-laws.sheet-10 (before torrent) (before sheet) t (sym f ∙ h) p)

-- ---- 11: "number out of range; offset of the value"

-- given by torrent_metainfo::read
pub torrent-11 : (text : Lent (List ℕ)) (r : Result Torrent Refusal) → metainfo.read-ensures text r → (p : ℕ) → paper r ≡ refused 11 p ↔ NoTorrentText (before text) 11 p
torrent-11 text r e p = Iff.trans (same_answer e) (torrents.range-law (before text) p)

-- given by tracker::read
pub reply-11 : (text : Lent (List ℕ)) (r : Result Reply Refusal) → tracker.read-ensures text r → (p : ℕ) → reply_paper r ≡ refused 11 p ↔ NoReplyText (before text) 11 p
reply-11 text r e p = Iff.trans (same_answer e) (replies-laws.reply-own (before text) 11 p (omega arith))

-- given by torrent_blocks::block
pub block-11 : (lengths : Lent (List ℕ)) (pl : ℕ) (p : PieceNumber) (o : PieceOffset) (n : ℕ) (r : Result ℕ Refusal) (out : Lent (List ℕ)) → blocks.block-ensures lengths pl p o n r out → (q : ℕ) → paper r ≡ refused 11 q ↔ (BlockCause (joined_files (before lengths)) pl (spot p.0 o.0) n (length (before out)) 11 × (q ≡ 0))
block-11 lengths pl p o n r out e q = Iff.trans (left-answer e) (blocks-laws.block_refused (joined_files (before lengths)) pl p.0 o.0 n (before out) 11 q)

-- given by torrent_blocks::byte
pub byte-11 : (lengths : Lent (List ℕ)) (pl f o : ℕ) (r : Result Spot Refusal) → blocks.byte-ensures lengths pl f o r → (q : ℕ) → place_paper r ≡ refused 11 q ↔ (ByteCause (joined_files (before lengths)) pl f o 11 × (q ≡ 0))
byte-11 lengths pl f o r e q = Iff.trans (same_answer e) (blocks-laws.byte-refused (joined_files (before lengths)) pl f o 11 q)

-- given by torrent_blocks::piece_size
pub piece_size-11 : (lengths : Lent (List ℕ)) (pl : ℕ) (p : PieceNumber) (r : Result ℕ Refusal) → blocks.piece_size-ensures lengths pl p r → (q : ℕ) → paper r ≡ refused 11 q ↔ (SizeCause (joined_files (before lengths)) pl p.0 11 × (q ≡ 0))
piece_size-11 lengths pl p r e q = Iff.trans (same_answer e) (blocks-laws.size-refused (joined_files (before lengths)) pl p.0 11 q)

-- given by tracker::writing::write
pub reply-writer-11 : (interval : ℕ) (peers : Lent (List ℕ)) (r : Result ℕ Refusal) (out : Lent (List ℕ)) → replies.write-ensures interval peers r out → (p : ℕ) → paper r ≡ refused 11 p ↔ (NotWritten interval (before peers) (before out) 11 × (p ≡ 0))
reply-writer-11 interval peers r out e p = Iff.trans (left-answer e) (writers.reply-written interval (before peers) (before out) 11 p)

-- given by torrent_authoring::write
pub torrent-writer-11 : (announce name : Lent (List ℕ)) (pl : ℕ) (pieces : Lent (List ℕ)) (len : ℕ) (r : Result ℕ Refusal) (out : Lent (List ℕ)) → authoring.write-ensures announce name pl pieces len r out → (p : ℕ) → paper r ≡ refused 11 p ↔ (rules.NotWritten (asked announce name pl pieces len) (before out) 11 × (p ≡ 0))
torrent-writer-11 announce name pl pieces len r out e p = Iff.trans (left-answer e) (writers.torrent-written (asked announce name pl pieces len) (before out) 11 p)

-- given by torrent_authoring::size
pub torrent-size-11 : (announce name : Lent (List ℕ)) (pl : ℕ) (pieces : Lent (List ℕ)) (len : ℕ) (r : Result ℕ Refusal) → authoring.size-ensures announce name pl pieces len r → (p : ℕ) → paper r ≡ refused 11 p ↔ (Unsized (asked announce name pl pieces len) 11 × (p ≡ 0))
torrent-size-11 announce name pl pieces len r e p = Iff.trans (same_answer e) (writers.torrent-sized (asked announce name pl pieces len) 11 p)

-- ---- 12: "wrong length of pieces; its offset"

-- given by torrent_metainfo::read
pub torrent-12 : (text : Lent (List ℕ)) (r : Result Torrent Refusal) → metainfo.read-ensures text r → (p : ℕ) → paper r ≡ refused 12 p ↔ NoTorrentText (before text) 12 p
torrent-12 text r e p = Iff.trans (same_answer e) (torrents.pieces-law (before text) p)

-- given by torrent_authoring::write
pub torrent-writer-12 : (announce name : Lent (List ℕ)) (pl : ℕ) (pieces : Lent (List ℕ)) (len : ℕ) (r : Result ℕ Refusal) (out : Lent (List ℕ)) → authoring.write-ensures announce name pl pieces len r out → (p : ℕ) → paper r ≡ refused 12 p ↔ (rules.NotWritten (asked announce name pl pieces len) (before out) 12 × (p ≡ 0))
torrent-writer-12 announce name pl pieces len r out e p = Iff.trans (left-answer e) (writers.torrent-written (asked announce name pl pieces len) (before out) 12 p)

-- given by torrent_authoring::size
pub torrent-size-12 : (announce name : Lent (List ℕ)) (pl : ℕ) (pieces : Lent (List ℕ)) (len : ℕ) (r : Result ℕ Refusal) → authoring.size-ensures announce name pl pieces len r → (p : ℕ) → paper r ≡ refused 12 p ↔ (Unsized (asked announce name pl pieces len) 12 × (p ≡ 0))
torrent-size-12 announce name pl pieces len r e p = Iff.trans (same_answer e) (writers.torrent-sized (asked announce name pl pieces len) 12 p)

-- ---- 13: "bad name or path; offset of the string, or of an empty path list"

-- given by torrent_metainfo::read
pub torrent-13 : (text : Lent (List ℕ)) (r : Result Torrent Refusal) → metainfo.read-ensures text r → (p : ℕ) → paper r ≡ refused 13 p ↔ NoTorrentText (before text) 13 p
torrent-13 text r e p = Iff.trans (same_answer e) (torrents.name-law (before text) p)

-- given by torrent_authoring::write
pub torrent-writer-13 : (announce name : Lent (List ℕ)) (pl : ℕ) (pieces : Lent (List ℕ)) (len : ℕ) (r : Result ℕ Refusal) (out : Lent (List ℕ)) → authoring.write-ensures announce name pl pieces len r out → (p : ℕ) → paper r ≡ refused 13 p ↔ (rules.NotWritten (asked announce name pl pieces len) (before out) 13 × (p ≡ 0))
torrent-writer-13 announce name pl pieces len r out e p = Iff.trans (left-answer e) (writers.torrent-written (asked announce name pl pieces len) (before out) 13 p)

-- given by torrent_authoring::size
pub torrent-size-13 : (announce name : Lent (List ℕ)) (pl : ℕ) (pieces : Lent (List ℕ)) (len : ℕ) (r : Result ℕ Refusal) → authoring.size-ensures announce name pl pieces len r → (p : ℕ) → paper r ≡ refused 13 p ↔ (Unsized (asked announce name pl pieces len) 13 × (p ≡ 0))
torrent-size-13 announce name pl pieces len r e p = Iff.trans (same_answer e) (writers.torrent-sized (asked announce name pl pieces len) 13 p)

-- ---- 15: "bad peer entry length; offset of the string"

-- given by tracker::read
pub reply-15 : (text : Lent (List ℕ)) (r : Result Reply Refusal) → tracker.read-ensures text r → (p : ℕ) → reply_paper r ≡ refused 15 p ↔ NoReplyText (before text) 15 p
reply-15 text r e p = Iff.trans (same_answer e) (replies-laws.reply-own (before text) 15 p (omega arith))

-- given by tracker::writing::write
pub reply-writer-15 : (interval : ℕ) (peers : Lent (List ℕ)) (r : Result ℕ Refusal) (out : Lent (List ℕ)) → replies.write-ensures interval peers r out → (p : ℕ) → paper r ≡ refused 15 p ↔ (NotWritten interval (before peers) (before out) 15 × (p ≡ 0))
reply-writer-15 interval peers r out e p = Iff.trans (left-answer e) (writers.reply-written interval (before peers) (before out) 15 p)

-- given by sheets::find, of the sheet, once the torrent is taken
pub sheet-15 : (torrent sheet : Lent (List ℕ)) (r : address.Found) → sheets.find-ensures torrent sheet r → (q : Result Torrent Refusal) → metainfo.read-ensures torrent q → (t : Torrent) → paper q ≡ taken t → (p : ℕ) → told r ≡ of OfSheet (refused 15 p) ↔ NoSheetText (before sheet) 15 p
sheet-15 torrent sheet r e q f t h p = Iff.trans (same_answer e) (sheets-laws.sheet-15 (before torrent) (before sheet) t (sym f ∙ h) p)

-- ---- 18: "at the first table field that is wrong, cut off or a hash given before, then at the first byte after the last body; then, body by body, [..] at a hash that does not match it" (document 02)

-- given by week::read
pub week-18 : (file : Lent (List ℕ)) (r : Result Week Refusal) → week.read-ensures file r → (p : ℕ) → paper r ≡ refused 18 p ↔ NoWeek (before file) 18 p
week-18 file r e p = Iff.trans (same_answer e) (week-laws.week-faults (before file) 18 p)

-- a file that is cut anywhere in its table after the first offset is 18 at the first length
pub week-cut : (file : Lent (List ℕ)) (r : Result Week Refusal) → week.read-ensures file r → (n : ℕ) → Counts (before file) n → Number (before file) 4 (4 + 28 * n) → length (before file) < 4 + 28 * n → paper r ≡ refused 18 8
week-cut file r e n c o l = e ∙ week-numbers.cut-table (before file) n c o l

-- given by week::table
pub week-table-18 : (file : Lent (List ℕ)) (r : Result ℕ Refusal) → week.table-ensures file r → (p : ℕ) → paper r ≡ refused 18 p ↔ NoTable (before file) 18 p
week-table-18 file r e p = Iff.trans (same_answer e) (week-laws.table-faults (before file) 18 p)

-- given by week::package_at
pub package_at-18 : (file : Lent (List ℕ)) (index : ℕ) (r : Result PackageEntry Refusal) → week.package_at-ensures file index r → (p : ℕ) → paper r ≡ refused 18 p ↔ NoEntry (before file) index 18 p
package_at-18 file index r e p = Iff.trans (same_answer e) (week-laws.entry-faults (before file) index 18 p)

-- given by week::write
pub week-writer-18 : (bodies lengths : Lent (List ℕ)) (r : Result ℕ Refusal) (out : Lent (List ℕ)) → week.write-ensures bodies lengths r out → (p : ℕ) → paper r ≡ refused 18 p ↔ ((p ≡ 0) × Unwritten (before bodies) (before lengths) (length (before out)) 18)
week-writer-18 bodies lengths r out e p = Iff.trans (left-answer e) (week-back.write-refused (before bodies) (before lengths) (before out) 18 p)

-- ---- 19: "at the offset of the first byte that breaks the form, at the first letter of a name that comes once too often, or at the text's end if it stops short or xt is missing" (document 02)

-- given by links::read
pub link-19 : (text : Lent (List ℕ)) (r : Result (Option ℕ × Option ℕ) Refusal) (hash name address : Lent (List ℕ)) → links.read-ensures text r hash name address → (p : ℕ) → linked_paper r ≡ refused 19 p ↔ ((length (before text) ≤ most_text) × Fault (before text) p)
link-19 text r hash name address e p = Iff.trans (links-laws.read_answer e) (links-laws.read-19 (before text) (before hash) (before name) (before address) p)

-- ---- 20: "frame length over 16,393"

-- given by peer_wire::read_frame
pub frame-20 : (bytes : Lent (List ℕ)) (r : Result Read Refusal) → wire.read_frame-ensures bytes r → (p : ℕ) → read_paper r ≡ refused 20 p ↔ (TooLong (before bytes) × (p ≡ 0))
frame-20 bytes r e p = Iff.trans (same_answer e) (framing.frame-20 (before bytes) p)

-- given by the frame writers, of what follows the length
pub write-20 : (r : Result ℕ Refusal) (out : Lent (List ℕ)) (rest : List ℕ) → Frames r out rest → (p : ℕ) → paper r ≡ refused 20 p ↔ ((longest_frame < length rest) × (p ≡ 0))
write-20 r out rest e p = Iff.trans (left-answer (as-framed r out rest e)) (framing.write-20 rest (before out) p)

-- given by yard, after an accepted start and any calls
pub yard-20 : (lent : Yard) (h : History) (t : Tables) → Made lent h (found t) → (c : Call) (r : ℕ) (z : Yard) → Permits t c r z
    → r ≡ 20 ↔ ((i : ℕ) × (s : List ℕ) × (c ≡ feed i s) × Sits (fixed_by lent) h i × TooLong s)
yard-20 lent h t m c r z e = yard-given lent h t m c r z e 20 (omega arith) (omega arith)

-- ---- 21: "payload length wrong for its id"

-- given by peer_wire::read_frame
pub frame-21 : (bytes : Lent (List ℕ)) (r : Result Read Refusal) → wire.read_frame-ensures bytes r → (p : ℕ) → read_paper r ≡ refused 21 p ↔ (All (before bytes) × (Right (before bytes) → ⊥) × (p ≡ 0))
frame-21 bytes r e p = Iff.trans (same_answer e) (framing.frame-21 (before bytes) p)

-- given by the frame writers
pub write-21 : (r : Result ℕ Refusal) (out : Lent (List ℕ)) (rest : List ℕ) → Frames r out rest → (p : ℕ) → paper r ≡ refused 21 p ↔ ((length rest ≤ longest_frame) × (Allowed (get_or rest 0 0) (length rest) → ⊥) × (p ≡ 0))
write-21 r out rest e p = Iff.trans (left-answer (as-framed r out rest e)) (framing.write-21 rest (before out) p)

-- given by yard, after an accepted start and any calls
pub yard-21 : (lent : Yard) (h : History) (t : Tables) → Made lent h (found t) → (c : Call) (r : ℕ) (z : Yard) → Permits t c r z
    → r ≡ 21 ↔ ((i : ℕ) × (s : List ℕ) × (c ≡ feed i s) × Sits (fixed_by lent) h i × All s × (Right s → ⊥))
yard-21 lent h t m c r z e = yard-given lent h t m c r z e 21 (omega arith) (omega arith)

-- ---- 22: "handshake's first 20 bytes wrong"

-- given by peer_wire::read_handshake, whose info hash has 20 bytes
pub handshake-22 : (bytes info : Lent (List ℕ)) (r : Result Greeting Refusal) → wire.read_handshake-ensures bytes info r → length (before info) ≡ 20 → (p : ℕ) → greeting_paper r ≡ refused 22 p ↔ (Misnamed (before bytes) × (p ≡ 0))
handshake-22 bytes info r e h p = Iff.trans (same_answer e) (framing.handshake-22 (before info) (before bytes) p h)

-- ---- 23: "handshake for another info hash"

-- given by peer_wire::read_handshake, whose info hash has 20 bytes
pub handshake-23 : (bytes info : Lent (List ℕ)) (r : Result Greeting Refusal) → wire.read_handshake-ensures bytes info r → length (before info) ≡ 20 → (p : ℕ) → greeting_paper r ≡ refused 23 p ↔ (Named (before bytes) × (68 ≤ length (before bytes)) × (info_in (before bytes) ≡ before info → ⊥) × (p ≡ 0))
handshake-23 bytes info r e h p = Iff.trans (same_answer e) (framing.handshake-23 (before info) (before bytes) p h)

-- ---- 30: "bitfield not first", which document 02 says of the frames with an id

-- given by yard, after an accepted start and any calls
pub yard-30 : (lent : Yard) (h : History) (t : Tables) → Made lent h (found t) → (c : Call) (r : ℕ) (z : Yard) → Permits t c r z
    → r ≡ 30 ↔ ((i : ℕ) × (s : List ℕ) × (b : List ℕ) × (bytes : ℕ) × (c ≡ feed i s) × Sits (fixed_by lent) h i × Says s (bits b) bytes × (fresh h i ≡ false))
yard-30 lent h t m c r z e = yard-given lent h t m c r z e 30 (omega arith) (omega arith)

-- and so exactly when a message of its truck with an id was taken since the truck sat down
pub late-since : (lent : Yard) (h : History) (t : Tables) → Made lent h (found t) → (c : Call) (r : ℕ) (z : Yard) → Permits t c r z
    → r ≡ 30 ↔ ((i : ℕ) × (s : List ℕ) × (b : List ℕ) × (bytes : ℕ) × (c ≡ feed i s) × Sits (fixed_by lent) h i × Says s (bits b) bytes × Spoke h i)
late-since lent h t m c r z e = Iff.trans (yard-30 lent h t m c r z e)
    (λ (i, s, b, bytes, q, sits, says, f). (i, s, b, bytes, q, sits, says, (keepalive.spoke-exactly i h sits.1).0 f), λ (i, s, b, bytes, q, sits, says, k). (i, s, b, bytes, q, sits, says, (keepalive.spoke-exactly i h sits.1).1 k))

-- ---- 31: "piece, file or entry number too large"

-- given by yard, after an accepted start and any calls
pub yard-31 : (lent : Yard) (h : History) (t : Tables) → Made lent h (found t) → (c : Call) (r : ℕ) (z : Yard) → Permits t c r z
    → r ≡ 31 ↔ (((i : ℕ) × (s : List ℕ) × (q : ℕ) × (bytes : ℕ) × (c ≡ feed i s) × Sits (fixed_by lent) h i × Says s (have q) bytes × (pieces h ≤ q)) ⊎ (((i : ℕ) × (s : List ℕ) × (m : Message (List ℕ)) × (q : ℕ) × (b : ℕ) × (k : ℕ) × (bytes : ℕ) × (c ≡ feed i s) × Sits (fixed_by lent) h i × Says s m bytes × SpeaksOf q b k m × (pieces h ≤ q)) ⊎ (((i : ℕ) × (q : ℕ) × (c ≡ has i q) × (i < length lent.seats) × (pieces h ≤ q)) ⊎ ((q : ℕ) × (c ≡ count q) × (pieces h ≤ q)))))
yard-31 lent h t m c r z e = yard-given lent h t m c r z e 31 (omega arith) (omega arith)

-- given by torrent_blocks::block
pub block-31 : (lengths : Lent (List ℕ)) (pl : ℕ) (p : PieceNumber) (o : PieceOffset) (n : ℕ) (r : Result ℕ Refusal) (out : Lent (List ℕ)) → blocks.block-ensures lengths pl p o n r out → (q : ℕ) → paper r ≡ refused 31 q ↔ (BlockCause (joined_files (before lengths)) pl (spot p.0 o.0) n (length (before out)) 31 × (q ≡ 0))
block-31 lengths pl p o n r out e q = Iff.trans (left-answer e) (blocks-laws.block_refused (joined_files (before lengths)) pl p.0 o.0 n (before out) 31 q)

-- given by torrent_blocks::byte
pub byte-31 : (lengths : Lent (List ℕ)) (pl f o : ℕ) (r : Result Spot Refusal) → blocks.byte-ensures lengths pl f o r → (q : ℕ) → place_paper r ≡ refused 31 q ↔ (ByteCause (joined_files (before lengths)) pl f o 31 × (q ≡ 0))
byte-31 lengths pl f o r e q = Iff.trans (same_answer e) (blocks-laws.byte-refused (joined_files (before lengths)) pl f o 31 q)

-- given by torrent_blocks::piece_size
pub piece_size-31 : (lengths : Lent (List ℕ)) (pl : ℕ) (p : PieceNumber) (r : Result ℕ Refusal) → blocks.piece_size-ensures lengths pl p r → (q : ℕ) → paper r ≡ refused 31 q ↔ (SizeCause (joined_files (before lengths)) pl p.0 31 × (q ≡ 0))
piece_size-31 lengths pl p r e q = Iff.trans (same_answer e) (blocks-laws.size-refused (joined_files (before lengths)) pl p.0 31 q)

-- given by torrent_contents::file
pub file-31 : (text : Lent (List ℕ)) (n : ℕ) (r : Result FileEntry Refusal) → contents.file-ensures text n r → (q : Result Torrent Refusal) → metainfo.read-ensures text q → (p : ℕ) → paper r ≡ refused 31 p ↔ ((t : Torrent) × (paper q ≡ taken t) × (t.content.files ≤ n) × (p ≡ 0))
file-31 text n r e q f p = rw f (Iff.trans (same_answer e) (contents-laws.file-exactly (before text) n p))

-- given by torrent_contents::piece_hash
pub piece_hash-31 : (text : Lent (List ℕ)) (n : PieceNumber) (r : Result Part Refusal) → contents.piece_hash-ensures text n r → (q : Result Torrent Refusal) → metainfo.read-ensures text q → (p : ℕ) → paper r ≡ refused 31 p ↔ ((t : Torrent) × (paper q ≡ taken t) × (t.piece_count ≤ n.0) × (p ≡ 0))
piece_hash-31 text n r e q f p = rw f (Iff.trans (same_answer e) (contents-laws.hash-exactly (before text) n.0 p))

-- given by tracker::peer
pub peer-31 : (text : Lent (List ℕ)) (n : ℕ) (r : Result PeerFound Refusal) → tracker.peer-ensures text n r → (q : Result Reply Refusal) → tracker.read-ensures text q → (p : ℕ) → peer_paper r ≡ refused 31 p ↔ ((x : Answer ℕ) × (reply_paper q ≡ taken x) × (entries_in x ≤ n) × (p ≡ 0))
peer-31 text n r e q f p = rw f (Iff.trans (same_answer e) (replies-laws.peer-counted (before text) n p))

-- given by torrent_contents::check_piece
pub piece-check-31 : (text : Lent (List ℕ)) (n : PieceNumber) (bytes : Lent (List ℕ)) (r : Result Bool Refusal) → contents.check_piece-ensures text n bytes r → (q : Result Torrent Refusal) → metainfo.read-ensures text q → (p : ℕ) → paper r ≡ refused 31 p ↔ ((t : Torrent) × (paper q ≡ taken t) × Unchecked t n.0 (before bytes) 31 × (p ≡ 0))
piece-check-31 text n bytes r e q f p = rw f (Iff.trans (same_answer e) (contents-laws.check-own (before text) n.0 (before bytes) 31 p (omega arith)))

-- given by week::package
pub week-package-31 : (file : Lent (List ℕ)) (index : ℕ) (r : Result PackageEntry Refusal) → week.package-ensures file index r → (q : Result Week Refusal) → week.read-ensures file q → (p : ℕ) → paper r ≡ refused 31 p ↔ ((w : Week) × (paper q ≡ taken w) × (w.count ≤ index) × (p ≡ 0))
week-package-31 file index r e q f p = rw f (Iff.trans (same_answer e) (weeks.package-31 (before file) index p))

-- given by week::package_at
pub package_at-31 : (file : Lent (List ℕ)) (index : ℕ) (r : Result PackageEntry Refusal) → week.package_at-ensures file index r → (p : ℕ) → paper r ≡ refused 31 p ↔ NoEntry (before file) index 31 p
package_at-31 file index r e p = Iff.trans (same_answer e) (week-laws.entry-faults (before file) index 31 p)

-- ---- 32: "bitfield length wrong"

-- given by yard, after an accepted start and any calls
pub yard-32 : (lent : Yard) (h : History) (t : Tables) → Made lent h (found t) → (c : Call) (r : ℕ) (z : Yard) → Permits t c r z
    → r ≡ 32 ↔ ((i : ℕ) × (s : List ℕ) × (b : List ℕ) × (bytes : ℕ) × (c ≡ feed i s) × Sits (fixed_by lent) h i × Says s (bits b) bytes × (fresh h i ≡ true) × (length b ≡ width (pieces h) → ⊥))
yard-32 lent h t m c r z e = yard-given lent h t m c r z e 32 (omega arith) (omega arith)

-- ---- 33: "spare bit set"

-- given by yard, after an accepted start and any calls
pub yard-33 : (lent : Yard) (h : History) (t : Tables) → Made lent h (found t) → (c : Call) (r : ℕ) (z : Yard) → Permits t c r z
    → r ≡ 33 ↔ ((i : ℕ) × (s : List ℕ) × (b : List ℕ) × (bytes : ℕ) × (q : ℕ) × (c ≡ feed i s) × Sits (fixed_by lent) h i × Says s (bits b) bytes × (fresh h i ≡ true) × (length b ≡ width (pieces h)) × (pieces h ≤ q) × (q < 8 * length b) × (bit_at b q ≡ true))
yard-33 lent h t m c r z e = yard-given lent h t m c r z e 33 (omega arith) (omega arith)

-- ---- 34: "block or file offset outside its bounds, or a piece to check of the wrong length"

-- given by yard, after an accepted start and any calls
pub yard-34 : (lent : Yard) (h : History) (t : Tables) → Made lent h (found t) → (c : Call) (r : ℕ) (z : Yard) → Permits t c r z
    → r ≡ 34 ↔ ((i : ℕ) × (s : List ℕ) × (m : Message (List ℕ)) × (q : ℕ) × (b : ℕ) × (k : ℕ) × (bytes : ℕ) × (c ≡ feed i s) × Sits (fixed_by lent) h i × Says s m bytes × SpeaksOf q b k m × (q < pieces h) × (Fits (fixed_by lent) h q b k → ⊥))
yard-34 lent h t m c r z e = yard-given lent h t m c r z e 34 (omega arith) (omega arith)

-- given by torrent_blocks::block
pub block-34 : (lengths : Lent (List ℕ)) (pl : ℕ) (p : PieceNumber) (o : PieceOffset) (n : ℕ) (r : Result ℕ Refusal) (out : Lent (List ℕ)) → blocks.block-ensures lengths pl p o n r out → (q : ℕ) → paper r ≡ refused 34 q ↔ (BlockCause (joined_files (before lengths)) pl (spot p.0 o.0) n (length (before out)) 34 × (q ≡ 0))
block-34 lengths pl p o n r out e q = Iff.trans (left-answer e) (blocks-laws.block_refused (joined_files (before lengths)) pl p.0 o.0 n (before out) 34 q)

-- given by torrent_blocks::byte
pub byte-34 : (lengths : Lent (List ℕ)) (pl f o : ℕ) (r : Result Spot Refusal) → blocks.byte-ensures lengths pl f o r → (q : ℕ) → place_paper r ≡ refused 34 q ↔ (ByteCause (joined_files (before lengths)) pl f o 34 × (q ≡ 0))
byte-34 lengths pl f o r e q = Iff.trans (same_answer e) (blocks-laws.byte-refused (joined_files (before lengths)) pl f o 34 q)

-- given by torrent_contents::check_piece
pub piece-check-34 : (text : Lent (List ℕ)) (n : PieceNumber) (bytes : Lent (List ℕ)) (r : Result Bool Refusal) → contents.check_piece-ensures text n bytes r → (q : Result Torrent Refusal) → metainfo.read-ensures text q → (p : ℕ) → paper r ≡ refused 34 p ↔ ((t : Torrent) × (paper q ≡ taken t) × Unchecked t n.0 (before bytes) 34 × (p ≡ 0))
piece-check-34 text n bytes r e q f p = rw f (Iff.trans (same_answer e) (contents-laws.check-own (before text) n.0 (before bytes) 34 p (omega arith)))

-- ---- 35: "every seat taken"

-- given by yard, after an accepted start and any calls
pub yard-35 : (lent : Yard) (h : History) (t : Tables) → Made lent h (found t) → (c : Call) (r : ℕ) (z : Yard) → Permits t c r z
    → r ≡ 35 ↔ ((c ≡ sit) × ((i : ℕ) → i < length lent.seats → seated h i ≡ true))
yard-35 lent h t m c r z e = yard-given lent h t m c r z e 35 (omega arith) (omega arith)

-- ---- 36: "seat number too large, or seat free"

-- given by yard, after an accepted start and any calls
pub yard-36 : (lent : Yard) (h : History) (t : Tables) → Made lent h (found t) → (c : Call) (r : ℕ) (z : Yard) → Permits t c r z
    → r ≡ 36 ↔ (((i : ℕ) × On i c × Nobody (fixed_by lent) h i) ⊎ (((first : ℕ) × (space : ℕ) × (c ≡ missing first space) × (length lent.seats < first)) ⊎ (((i : ℕ) × (c ≡ look i) × (length lent.seats ≤ i)) ⊎ ((i : ℕ) × (q : ℕ) × (c ≡ has i q) × (length lent.seats ≤ i)))))
yard-36 lent h t m c r z e = yard-given lent h t m c r z e 36 (omega arith) (omega arith)

-- ---- 37: "lent output too short"

-- given by yard, after an accepted start and any calls
pub yard-37 : (lent : Yard) (h : History) (t : Tables) → Made lent h (found t) → (c : Call) (r : ℕ) (z : Yard) → Permits t c r z
    → r ≡ 37 ↔ ((i : ℕ) × (space : ℕ) × Marks i space c × Sits (fixed_by lent) h i × (space < 5))
yard-37 lent h t m c r z e = yard-given lent h t m c r z e 37 (omega arith) (omega arith)

-- given by torrent_blocks::block
pub block-37 : (lengths : Lent (List ℕ)) (pl : ℕ) (p : PieceNumber) (o : PieceOffset) (n : ℕ) (r : Result ℕ Refusal) (out : Lent (List ℕ)) → blocks.block-ensures lengths pl p o n r out → (q : ℕ) → paper r ≡ refused 37 q ↔ (BlockCause (joined_files (before lengths)) pl (spot p.0 o.0) n (length (before out)) 37 × (q ≡ 0))
block-37 lengths pl p o n r out e q = Iff.trans (left-answer e) (blocks-laws.block_refused (joined_files (before lengths)) pl p.0 o.0 n (before out) 37 q)

-- given by the writers of `bencode_writer`, a keepalive, a handshake and the listing: bytes w put at a place
pub put-37 : (r : Result ℕ Refusal) (out : Lent (List ℕ)) (w : List ℕ) (at : ℕ) → Puts r out w at → (p : ℕ) → paper r ≡ refused 37 p ↔ ((length (before out) < at + length w) × (p ≡ 0))
put-37 r out w at e p = Iff.trans (left-answer (as-put r out w at e)) (given (puts-laws.put-exactly w at (before out) 37 p))

-- given by the frame writers
pub write-37 : (r : Result ℕ Refusal) (out : Lent (List ℕ)) (rest : List ℕ) → Frames r out rest → (p : ℕ) → paper r ≡ refused 37 p ↔ (Allowed (get_or rest 0 0) (length rest) × (length (before out) < 4 + length rest) × (p ≡ 0))
write-37 r out rest e p = Iff.trans (left-answer (as-framed r out rest e)) (framing.write-37 rest (before out) p)

-- given by tracker::writing::write
pub reply-writer-37 : (interval : ℕ) (peers : Lent (List ℕ)) (r : Result ℕ Refusal) (out : Lent (List ℕ)) → replies.write-ensures interval peers r out → (p : ℕ) → paper r ≡ refused 37 p ↔ (NotWritten interval (before peers) (before out) 37 × (p ≡ 0))
reply-writer-37 interval peers r out e p = Iff.trans (left-answer e) (writers.reply-written interval (before peers) (before out) 37 p)

-- given by torrent_authoring::write
pub torrent-writer-37 : (announce name : Lent (List ℕ)) (pl : ℕ) (pieces : Lent (List ℕ)) (len : ℕ) (r : Result ℕ Refusal) (out : Lent (List ℕ)) → authoring.write-ensures announce name pl pieces len r out → (p : ℕ) → paper r ≡ refused 37 p ↔ (rules.NotWritten (asked announce name pl pieces len) (before out) 37 × (p ≡ 0))
torrent-writer-37 announce name pl pieces len r out e p = Iff.trans (left-answer e) (writers.torrent-written (asked announce name pl pieces len) (before out) 37 p)

-- given by links::read: dn has more bytes than the output for the name, or tr than that for the address
pub link-37 : (text : Lent (List ℕ)) (r : Result (Option ℕ × Option ℕ) Refusal) (hash name address : Lent (List ℕ)) → links.read-ensures text r hash name address → (p : ℕ) → linked_paper r ≡ refused 37 p ↔ (((m : Meaning) × (length (before text) ≤ most_text) × IsLink (before text) m × ((length (before name) < size_of m.name) ⊎ (length (before address) < size_of m.address))) × (p ≡ 0))
link-37 text r hash name address e p = Iff.trans (links-laws.read_answer e) (links-laws.read-37 (before text) (before hash) (before name) (before address) p)

-- given by links::write
pub write-link-37 : (torrent : Lent (List ℕ)) (r : Result ℕ Refusal) (out : Lent (List ℕ)) → links.write-ensures torrent r out → (p : ℕ) → paper r ≡ refused 37 p ↔ (((v : Value) × (t : TorrentSays) × Encodes (before torrent) v × IsTorrent v t × (length (link_of t) ≤ most_text) × (length (before out) < length (link_of t))) × (p ≡ 0))
write-link-37 torrent r out e p = Iff.trans (left-answer e) (links-laws.write-37 (before torrent) (before out) p)

-- given by week::write
pub week-writer-37 : (bodies lengths : Lent (List ℕ)) (r : Result ℕ Refusal) (out : Lent (List ℕ)) → week.write-ensures bodies lengths r out → (p : ℕ) → paper r ≡ refused 37 p ↔ ((p ≡ 0) × Unwritten (before bodies) (before lengths) (length (before out)) 37)
week-writer-37 bodies lengths r out e p = Iff.trans (left-answer e) (week-back.write-refused (before bodies) (before lengths) (before out) 37 p)

-- ---- 38: "yard sizes don't fit"

-- given by yard, after an accepted start and any calls
pub start-38 : (lent : Yard) (h : History) (t : Tables) → Made lent h (found t) → (c : Call) (r : ℕ) (z : Yard) → Permits t c r z
    → r ≡ 38 ↔ ((q : ℕ) × (l : ℕ) × (k : ℕ) × (c ≡ start q l k) × (StartFits h (sizes_of q l k) → ⊥))
start-38 lent h t m c r z e = yard-given lent h t m c r z e 38 (omega arith) (omega arith)

-- given by yard, on any tables
pub yard-38 : (t : Tables) (c : Call) (r : ℕ) (z : Yard) → Permits t c r z → r ≡ 38 ↔ Unfit (found t) c
yard-38 t c r z e = number-given (permits-step t c r z e).0 38 (omega arith) (omega arith) (damage.sizes-exactly (found t) c)

-- ---- 39: "damaged: a count to be raised would pass its top, or one to be lowered is 0"; ticket 6 of document 02: "also where a byte count would pass 2^53, or a round finds
-- a round number over 2 or a free place, now (nobody aside) or last, that is no seat"

-- given by yard, on any tables
pub yard-39 : (t : Tables) (c : Call) (r : ℕ) (z : Yard) → Permits t c r z → r ≡ 39 ↔ Damaged (found t) c
yard-39 t c r z e = number-given (permits-step t c r z e).0 39 (omega arith) (omega arith) (damage.damaged-exactly (found t) c)

-- given by yard, after an accepted start and any calls: only of a piece with which its truck would have sent more than 2^53 bytes of blocks since the last round
pub start-39 : (lent : Yard) (h : History) (t : Tables) → Made lent h (found t) → (c : Call) (r : ℕ) (z : Yard) → Permits t c r z
    → r ≡ 39 ↔ ((i : ℕ) × (s : List ℕ) × (q : ℕ) × (b : ℕ) × (block : List ℕ) × (bytes : ℕ) × (c ≡ feed i s) × Sits (fixed_by lent) h i × Says s (piece q b block) bytes × (q < pieces h)
    × Fits (fixed_by lent) h q b (length block) × (2 ^ 53 < sent h i + length block))
start-39 lent h t m c r z e = yard-given lent h t m c r z e 39 (omega arith) (omega arith)

-- so never where, with this call's, fewer than 2^53 bytes of blocks came in since the last round, a start counting as one
pub never-39 : (lent : Yard) (h : History) (t : Tables) → Made lent h (found t) → (c : Call) (r : ℕ) (z : Yard) → Permits t c r z → came_in h + block_in_of c < 2 ^ 53 → r ≡ 39 → ⊥
never-39 lent h t m c r z e few = number-never (permits-step t c r z e).0 39 (omega arith) (omega arith) (runs.undamaged lent h (found t) (made-run lent h (found t) m) c few)

-- ---- wait: "more bytes are needed, nothing is used"

-- given by peer_wire::read_frame
pub frame-wait : (bytes : Lent (List ℕ)) (r : Result Read Refusal) → wire.read_frame-ensures bytes r → read_paper r ≡ taken frames.wait ↔ (Few (before bytes) ⊎ causes.Cut (before bytes))
frame-wait bytes r e = Iff.trans (same_answer e) (wait-exactly (before bytes))

-- given by peer_wire::read_handshake, whose info hash has 20 bytes
pub handshake-wait : (bytes info : Lent (List ℕ)) (r : Result Greeting Refusal) → wire.read_handshake-ensures bytes info r → length (before info) ≡ 20 → greeting_paper r ≡ taken handshake.wait ↔ (Named (before bytes) × (length (before bytes) < 68))
handshake-wait bytes info r e h = Iff.trans (same_answer e) (shake-wait-exactly (before info) (before bytes) h)

-- given by yard, after an accepted start and any calls
pub yard-wait : (lent : Yard) (h : History) (t : Tables) → Made lent h (found t) → (c : Call) (r : ℕ) (z : Yard) → Permits t c r z → r ≡ 255 ↔ ((i : ℕ) × (s : List ℕ) × (c ≡ feed i s) × Sits (fixed_by lent) h i × (Few s ⊎ causes.Cut s))
yard-wait lent h t m c r z e =
    let g = made-run lent h (found t) m in
    Iff.trans (number-waits (permits-step t c r z e).0 (no-wait (found t) c)) (runs.waits lent h (found t) g c)
