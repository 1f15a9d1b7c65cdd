-- Statement 4 of demand 1, the rest of it: a call refuses by no number but those that One/Numbers.antt states for it. Call by call, the numbers that a
-- refusal may have, under the words of document 01 that give them; r is any answer that the contract of the call permits. Assumes nothing.
use Rattle.refusal.specs.declared.Refusal.{Refusal}
use Rattle.week.specs.declared.Entry.{Entry as PackageEntry}
use Rattle.week.specs.declared.Week.{Week}
use Rattle.std.specs.Prelude.{◌≡◌, refl, ℕ, length, Bool, Option, Result}
use Rattle.std.proofs.Common.{sym, ◌∙◌}
use mathlib.Core.List.{List, [], ◌∷◌, Memᴰ as In}
use Rattle.refusal.specs.Paper.{paper, refused}
use Rattle.bencode_writer.proofs.Puts as puts-laws
use Rattle.hash_sha1.specs.declared.stream.Stream.{Stream}
use Rattle.torrent_blocks.specs.Spans.{joined_files}
use Rattle.torrent_blocks.specs.Answers.{place_paper}
use Rattle.torrent_blocks.specs.declared.PieceNumber.{PieceNumber}
use Rattle.torrent_blocks.specs.declared.PieceOffset.{PieceOffset}
use Rattle.torrent_blocks.specs.declared.Spot.{Spot}
use Rattle.torrent_blocks.proofs.Causes as blocks-laws
use Rattle.peer_wire.specs.Frames.{read_paper}
use Rattle.peer_wire.specs.Handshake.{greeting_paper}
use Rattle.peer_wire.specs.declared.Greeting.{Greeting}
use Rattle.peer_wire.specs.declared.Read.{Read}
use Rattle.peer_wire.proofs.Decided.{exactly}
use Rattle.peer_wire.proofs.Shaking.{shake-exactly}
use Rattle.peer_wire.proofs.Written.{write-exactly}
use Rattle.tracker.specs.Reading.{peer_paper, reply_paper}
use Rattle.tracker.specs.declared.Reply.{Reply}
use Rattle.tracker.specs.declared.Found.{Found as PeerFound}
use Rattle.sheets.specs.Reading.{of, told}
use Rattle.sheets.specs.declared.Source.TheVariants.{Torrent as OfTorrent, Sheet as OfSheet}
use Rattle.sheets.specs.declared.Found as address
use Rattle.links.specs.Reading.{linked_paper}
use Rattle.yard_tables.specs.Tables.{Yard}
use Rattle.yard_tables.specs.Step.{Call}
use Rattle.yard_laws.specs.History.{History}
use Rattle.torrent_contents.specs.declared.Entry.{Entry as FileEntry}
use Rattle.refusal.specs.declared.Part.{Part}
use Rattle.demands_laws.proofs.Refusals.{left-answer}
use Rattle.demands_laws.proofs.Numbered.{number-refuses}
use Rattle.demands_laws.proofs.Contents as contents-laws
use Rattle.demands_laws.proofs.Writers as writers
use Rattle.demands_laws.proofs.Digests as digests
use Rattle.demands_laws.proofs.Links as links-laws
use Rattle.demands_laws.proofs.Only as only
use Rattle.demands_laws.proofs.Runs as runs
use Rattle.demands.specs.Program.{Tables, found, Permits, Made}
use Rattle.demands.proofs.Program.{permits-step, made-run}
use Rattle.torrent_metainfo.specs.declared.Torrent.{Torrent}
use Rattle.demands.specs.One.{Lent, before}
use Rattle.demands.specs.One.Alike.{asked, Frames, Puts}
use Rattle.demands.proofs.One.Alike.{as-framed, as-put}
use Rattle.demands.specs.One.Doors.Bencode as bencode
use Rattle.demands.specs.One.Doors.Metainfo as metainfo
use Rattle.demands.specs.One.Doors.Contents as contents
use Rattle.demands.specs.One.Doors.Authoring as authoring
use Rattle.demands.specs.One.Doors.Tracker as tracker
use Rattle.demands.specs.One.Doors.TrackerWriting as replies
use Rattle.demands.specs.One.Doors.Sheets as sheets
use Rattle.demands.specs.One.Doors.Links as links
use Rattle.demands.specs.One.Doors.Week as week
use Rattle.demands.specs.One.Doors.Blocks as blocks
use Rattle.demands.specs.One.Doors.Wire as wire
use Rattle.demands.specs.One.Doors.Sha1 as sha1

-- ---- texts: "1" to "8" of the table

-- of bencode::check
pub check-no-other : (text : Lent (List ℕ)) (r : Result ℕ Refusal) → bencode.check-ensures text r → (k p : ℕ) → paper r ≡ refused k p → In k (1 ∷ 2 ∷ 3 ∷ 5 ∷ 6 ∷ 7 ∷ 8 ∷ [])
check-no-other text r e k p x = let d = sym e.0 ∙ x in only.check (before text) k p d

-- ---- torrents: "Checks in this order: bencode; top is a dictionary; [..] name (string, then 13), piece length (integer, then 11) [..]. Then how many files, the
-- total, how many pieces (11), then 12."

-- of torrent_metainfo::read
pub torrent-no-other : (text : Lent (List ℕ)) (r : Result Torrent Refusal) → metainfo.read-ensures text r → (k p : ℕ) → paper r ≡ refused k p → In k (1 ∷ 2 ∷ 3 ∷ 5 ∷ 6 ∷ 7 ∷ 8 ∷ 10 ∷ 11 ∷ 12 ∷ 13 ∷ [])
torrent-no-other text r e k p x = let d = sym e ∙ x in only.torrent (before text) k p d

-- of torrent_metainfo::info_hash
pub info_hash-no-other : (text : Lent (List ℕ)) (r : Result (Unit {0}) Refusal) (out : Lent (List ℕ)) → metainfo.info_hash-ensures text r out → (k p : ℕ) → paper r ≡ refused k p → In k (1 ∷ 2 ∷ 3 ∷ 5 ∷ 6 ∷ 7 ∷ 8 ∷ 10 ∷ 11 ∷ 12 ∷ 13 ∷ [])
info_hash-no-other text r out e k p x = let d = (left-answer e).0 x in only.torrent (before text) k p ((contents-laws.info_hash-alike (before text) (before out) k p).0 d)

-- of torrent_contents::file: a file's number too
pub file-no-other : (text : Lent (List ℕ)) (n : ℕ) (r : Result FileEntry Refusal) → contents.file-ensures text n r → (k p : ℕ) → paper r ≡ refused k p → In k (31 ∷ 1 ∷ 2 ∷ 3 ∷ 5 ∷ 6 ∷ 7 ∷ 8 ∷ 10 ∷ 11 ∷ 12 ∷ 13 ∷ [])
file-no-other text n r e k p x = let d = sym e ∙ x in only.file-entry (before text) n k p d

-- of torrent_contents::piece_hash: a piece's number too
pub piece_hash-no-other : (text : Lent (List ℕ)) (n : PieceNumber) (r : Result Part Refusal) → contents.piece_hash-ensures text n r → (k p : ℕ) → paper r ≡ refused k p → In k (31 ∷ 1 ∷ 2 ∷ 3 ∷ 5 ∷ 6 ∷ 7 ∷ 8 ∷ 10 ∷ 11 ∷ 12 ∷ 13 ∷ [])
piece_hash-no-other text n r e k p x = let d = sym e ∙ x in only.piece-hash (before text) n.0 k p d

-- of torrent_contents::check_piece: and "a piece to check of the wrong length"
pub piece-check-no-other : (text : Lent (List ℕ)) (n : PieceNumber) (bytes : Lent (List ℕ)) (r : Result Bool Refusal) → contents.check_piece-ensures text n bytes r → (k p : ℕ) → paper r ≡ refused k p → In k (31 ∷ 34 ∷ 1 ∷ 2 ∷ 3 ∷ 5 ∷ 6 ∷ 7 ∷ 8 ∷ 10 ∷ 11 ∷ 12 ∷ 13 ∷ [])
piece-check-no-other text n bytes r e k p x = let d = sym e ∙ x in only.piece-check (before text) n.0 (before bytes) k p d

-- of torrent_authoring::write
pub torrent-writer-no-other : (announce name : Lent (List ℕ)) (pl : ℕ) (pieces : Lent (List ℕ)) (len : ℕ) (r : Result ℕ Refusal) (out : Lent (List ℕ)) → authoring.write-ensures announce name pl pieces len r out → (k p : ℕ) → paper r ≡ refused k p → In k (8 ∷ 11 ∷ 12 ∷ 13 ∷ 37 ∷ [])
torrent-writer-no-other announce name pl pieces len r out e k p x = let d = (left-answer e).0 x in only.torrent-writer (asked announce name pl pieces len) (before out) k ((writers.torrent-written (asked announce name pl pieces len) (before out) k p).0 d).0

-- of torrent_authoring::size
pub torrent-size-no-other : (announce name : Lent (List ℕ)) (pl : ℕ) (pieces : Lent (List ℕ)) (len : ℕ) (r : Result ℕ Refusal) → authoring.size-ensures announce name pl pieces len r → (k p : ℕ) → paper r ≡ refused k p → In k (8 ∷ 11 ∷ 12 ∷ 13 ∷ [])
torrent-size-no-other announce name pl pieces len r e k p x = let d = sym e ∙ x in only.torrent-size (asked announce name pl pieces len) k ((writers.torrent-sized (asked announce name pl pieces len) k p).0 d).0

-- ---- replies: "After bencode, a dictionary (10) [..] failure reason (string, else 10) [..] interval (0 to 2^31-1, else 11), then peers [..] (15 if not a multiple
-- of 6) [..] peer id (20 bytes, else 15), ip (string), port (0 to 65535, else 11)."

-- of tracker::read
pub reply-no-other : (text : Lent (List ℕ)) (r : Result Reply Refusal) → tracker.read-ensures text r → (k p : ℕ) → reply_paper r ≡ refused k p → In k (1 ∷ 2 ∷ 3 ∷ 5 ∷ 6 ∷ 7 ∷ 8 ∷ 10 ∷ 11 ∷ 15 ∷ [])
reply-no-other text r e k p x = let d = sym e ∙ x in only.reply (before text) k p d

-- of tracker::peer: "asking for one [..] refuses as the reply does, then by 31"
pub peer-no-other : (text : Lent (List ℕ)) (n : ℕ) (r : Result PeerFound Refusal) → tracker.peer-ensures text n r → (k p : ℕ) → peer_paper r ≡ refused k p → In k (31 ∷ 1 ∷ 2 ∷ 3 ∷ 5 ∷ 6 ∷ 7 ∷ 8 ∷ 10 ∷ 11 ∷ 15 ∷ [])
peer-no-other text n r e k p x = let d = sym e ∙ x in only.peer (before text) n k p d

-- of tracker::writing::write
pub reply-writer-no-other : (interval : ℕ) (peers : Lent (List ℕ)) (r : Result ℕ Refusal) (out : Lent (List ℕ)) → replies.write-ensures interval peers r out → (k p : ℕ) → paper r ≡ refused k p → In k (8 ∷ 11 ∷ 15 ∷ 37 ∷ [])
reply-writer-no-other interval peers r out e k p x = let d = (left-answer e).0 x in only.reply-writer interval (before peers) (before out) k ((writers.reply-written interval (before peers) (before out) k p).0 d).0

-- ---- sheets: "the sheet's 8, 1 to 7, then 10 for a top that is no dictionary, then entry by entry 15 for a key not of 20 bytes and 10 for an address that is no string"

-- of sheets::find: the torrent's for the torrent, and these for the sheet
pub find-no-other : (torrent sheet : Lent (List ℕ)) (r : address.Found) → sheets.find-ensures torrent sheet r → (k p : ℕ)
    → (told r ≡ of OfTorrent (refused k p) → In k (1 ∷ 2 ∷ 3 ∷ 5 ∷ 6 ∷ 7 ∷ 8 ∷ 10 ∷ 11 ∷ 12 ∷ 13 ∷ []))
    × (told r ≡ of OfSheet (refused k p) → In k (1 ∷ 2 ∷ 3 ∷ 5 ∷ 6 ∷ 7 ∷ 8 ∷ 10 ∷ 15 ∷ []))
find-no-other torrent sheet r e k p = (λ x. only.torrent-beside (before torrent) (before sheet) k p (sym e ∙ x), λ x. only.sheet (before torrent) (before sheet) k p (sym e ∙ x))

-- ---- links: "8, then 19 [..]; then 37, reading or writing", and of a torrent whose link is written the torrent's own

-- of links::read
pub link-no-other : (text : Lent (List ℕ)) (r : Result (Option ℕ × Option ℕ) Refusal) (hash name address : Lent (List ℕ)) → links.read-ensures text r hash name address → (k p : ℕ) → linked_paper r ≡ refused k p → In k (8 ∷ 19 ∷ 37 ∷ [])
link-no-other text r hash name address e k p x = only.link (before text) (before hash) (before name) (before address) k p ((links-laws.read_answer e).0 x)

-- of links::write
pub write-link-no-other : (torrent : Lent (List ℕ)) (r : Result ℕ Refusal) (out : Lent (List ℕ)) → links.write-ensures torrent r out → (k p : ℕ) → paper r ≡ refused k p → In k (37 ∷ 1 ∷ 2 ∷ 3 ∷ 5 ∷ 6 ∷ 7 ∷ 8 ∷ 10 ∷ 11 ∷ 12 ∷ 13 ∷ [])
write-link-no-other torrent r out e k p x = only.link-writer (before torrent) (before out) k p ((left-answer e).0 x)

-- of links::size
pub link-size-no-other : (torrent : Lent (List ℕ)) (r : Result ℕ Refusal) → links.size-ensures torrent r → (k p : ℕ) → paper r ≡ refused k p → In k (1 ∷ 2 ∷ 3 ∷ 5 ∷ 6 ∷ 7 ∷ 8 ∷ 10 ∷ 11 ∷ 12 ∷ 13 ∷ [])
link-size-no-other torrent r e k p x = only.link-size (before torrent) k p (sym e ∙ x)

-- ---- a week's file: "8; 18 [..]; then, body by body, its own refusals [..]; 37 when writing"

-- of week::read
pub week-no-other : (file : Lent (List ℕ)) (r : Result Week Refusal) → week.read-ensures file r → (k p : ℕ) → paper r ≡ refused k p → In k (18 ∷ 1 ∷ 2 ∷ 3 ∷ 5 ∷ 6 ∷ 7 ∷ 8 ∷ 10 ∷ 11 ∷ 12 ∷ 13 ∷ [])
week-no-other file r e k p x = only.week (before file) k p (sym e ∙ x)

-- of week::package
pub week-package-no-other : (file : Lent (List ℕ)) (index : ℕ) (r : Result PackageEntry Refusal) → week.package-ensures file index r → (k p : ℕ) → paper r ≡ refused k p → In k (31 ∷ 18 ∷ 1 ∷ 2 ∷ 3 ∷ 5 ∷ 6 ∷ 7 ∷ 8 ∷ 10 ∷ 11 ∷ 12 ∷ 13 ∷ [])
week-package-no-other file index r e k p x = only.week-package (before file) index k p (sym e ∙ x)

-- of week::table
pub week-table-no-other : (file : Lent (List ℕ)) (r : Result ℕ Refusal) → week.table-ensures file r → (k p : ℕ) → paper r ≡ refused k p → In k (8 ∷ 18 ∷ [])
week-table-no-other file r e k p x = only.week-table (before file) k p (sym e ∙ x)

-- of week::package_at
pub package_at-no-other : (file : Lent (List ℕ)) (index : ℕ) (r : Result PackageEntry Refusal) → week.package_at-ensures file index r → (k p : ℕ) → paper r ≡ refused k p → In k (31 ∷ 18 ∷ 1 ∷ 2 ∷ 3 ∷ 5 ∷ 6 ∷ 7 ∷ 8 ∷ 10 ∷ 11 ∷ 12 ∷ 13 ∷ [])
package_at-no-other file index r e k p x = only.week-entry (before file) index k p (sym e ∙ x)

-- of week::write
pub week-writer-no-other : (bodies lengths : Lent (List ℕ)) (r : Result ℕ Refusal) (out : Lent (List ℕ)) → week.write-ensures bodies lengths r out → (k p : ℕ) → paper r ≡ refused k p → In k (37 ∷ 18 ∷ 1 ∷ 2 ∷ 3 ∷ 5 ∷ 6 ∷ 7 ∷ 8 ∷ 10 ∷ 11 ∷ 12 ∷ 13 ∷ [])
week-writer-no-other bodies lengths r out e k p x = only.week-writer (before bodies) (before lengths) (before out) k p ((left-answer e).0 x)

-- ---- digests: "piece to hash over 16,777,216"

-- of hash_sha1::digest
pub digest-no-other : (message : Lent (List ℕ)) (r : Result (Unit {0}) Refusal) (out : Lent (List ℕ)) → sha1.digest-ensures message r out → (k p : ℕ) → paper r ≡ refused k p → k ≡ 8
digest-no-other message r out e k p x = let d = (left-answer e).0 x in ((digests.digest-exactly (before message) (before out) k p).0 d).0

-- of hash_sha1::stream::finish
pub finish-no-other : (s : Stream) (r : Result (Unit {0}) Refusal) (out : Lent (List ℕ)) → sha1.finish-ensures s r out → (k p : ℕ) → paper r ≡ refused k p → k ≡ 8
finish-no-other s r out e k p x = let d = (left-answer e).0 x in ((digests.finish-exactly s (before out) k p).0 d).0

-- of hash_sha1::agrees
pub agrees-no-other : (message expected : Lent (List ℕ)) (r : Result Bool Refusal) → sha1.agrees-ensures message expected r → (k p : ℕ) → paper r ≡ refused k p → k ≡ 8
agrees-no-other message expected r e k p x = let d = sym e ∙ x in ((digests.agreement-exactly (before message) (before expected) k p).0 d).0

-- ---- blocks: "Lent file lengths and a piece length that break a number rule for torrents are 11 at place 0, checked first. Checks: 31, 34, 37."

-- of torrent_blocks::block
pub block-no-other : (lengths : Lent (List ℕ)) (pl : ℕ) (p : PieceNumber) (o : PieceOffset) (n : ℕ) (r : Result ℕ Refusal) (out : Lent (List ℕ)) → blocks.block-ensures lengths pl p o n r out → (k q : ℕ) → paper r ≡ refused k q → In k (11 ∷ 31 ∷ 34 ∷ 37 ∷ [])
block-no-other lengths pl p o n r out e k q x = let d = (left-answer e).0 x in only.block (joined_files (before lengths)) pl p.0 o.0 n (length (before out)) k (blocks-laws.block-refused-only (joined_files (before lengths)) pl p.0 o.0 n (before out) k q d).0

-- of torrent_blocks::byte: "file number refused by 31, offset by 34"
pub byte-no-other : (lengths : Lent (List ℕ)) (pl f o : ℕ) (r : Result Spot Refusal) → blocks.byte-ensures lengths pl f o r → (k q : ℕ) → place_paper r ≡ refused k q → In k (11 ∷ 31 ∷ 34 ∷ [])
byte-no-other lengths pl f o r e k q x = let d = sym e ∙ x in only.byte (joined_files (before lengths)) pl f o k (blocks-laws.byte-refused-only (joined_files (before lengths)) pl f o k q d).0

-- of torrent_blocks::piece_size
pub piece_size-no-other : (lengths : Lent (List ℕ)) (pl : ℕ) (p : PieceNumber) (r : Result ℕ Refusal) → blocks.piece_size-ensures lengths pl p r → (k q : ℕ) → paper r ≡ refused k q → In k (11 ∷ 31 ∷ [])
piece_size-no-other lengths pl p r e k q x = let d = sym e ∙ x in only.piece-size (joined_files (before lengths)) pl p.0 k (blocks-laws.size-refused-only (joined_files (before lengths)) pl p.0 k q d).0

-- ---- frames and handshakes: "20" to "23" of the table, and "37"

-- of peer_wire::read_frame
pub frame-no-other : (bytes : Lent (List ℕ)) (r : Result Read Refusal) → wire.read_frame-ensures bytes r → (k p : ℕ) → read_paper r ≡ refused k p → In k (20 ∷ 21 ∷ [])
frame-no-other bytes r e k p x = let d = sym e ∙ x in only.frame (before bytes) k p ((exactly (before bytes) (refused k p)).0 d)

-- of peer_wire::read_handshake, whose info hash has 20 bytes
pub handshake-no-other : (bytes info : Lent (List ℕ)) (r : Result Greeting Refusal) → wire.read_handshake-ensures bytes info r → length (before info) ≡ 20 → (k p : ℕ) → greeting_paper r ≡ refused k p → In k (22 ∷ 23 ∷ [])
handshake-no-other bytes info r e h k p x = let d = sym e ∙ x in only.handshake (before info) (before bytes) k p ((shake-exactly (before info) (before bytes) h (refused k p)).0 d)

-- of the frame writers
pub write-no-other : (r : Result ℕ Refusal) (out : Lent (List ℕ)) (rest : List ℕ) → Frames r out rest → (k p : ℕ) → paper r ≡ refused k p → In k (20 ∷ 21 ∷ 37 ∷ [])
write-no-other r out rest e k p x = let d = (left-answer (as-framed r out rest e)).0 x in only.write rest (before out) k p ((write-exactly rest (before out) (refused k p)).0 d)

-- of the writers of `bencode_writer`, a keepalive, a handshake and the listing: bytes w put at a place
pub put-no-other : (r : Result ℕ Refusal) (out : Lent (List ℕ)) (w : List ℕ) (at : ℕ) → Puts r out w at → (k p : ℕ) → paper r ≡ refused k p → k ≡ 37
put-no-other r out w at e k p x = let d = (left-answer (as-put r out w at e)).0 x in ((puts-laws.put-exactly w at (before out) k p).0 d).0

-- ---- the yard: "20", "21" and "30" to "39" of the table, after an accepted start and any calls

pub yard-no-other : (lent : Yard) (h : History) (t : Tables) → Made lent h (found t) → (c : Call) (r : ℕ) (z : Yard) → Permits t c r z → (r ≡ 0 → ⊥) → (r ≡ 255 → ⊥)
    → In r (20 ∷ 21 ∷ 30 ∷ 31 ∷ 32 ∷ 33 ∷ 34 ∷ 35 ∷ 36 ∷ 37 ∷ 38 ∷ 39 ∷ [])
yard-no-other lent h t m c r z e a b = let x = (number-refuses (permits-step t c r z e).0 r a b).0 refl in runs.given-one-of lent h (found t) (made-run lent h (found t) m) c r x.0 x.1
