-- Calls that a statement speaks of at once, each by its own contract, and what their contracts have in common. Assumes nothing.
use Rattle.refusal.specs.declared.Refusal.{Refusal}
use Rattle.torrent_metainfo.specs.declared.File.{File}
use Rattle.tracker.specs.declared.compact.Packed.{Packed}
use Rattle.tracker.specs.declared.listed.Listed.{Listed}
use Rattle.week.specs.declared.Week.{Week}
use Rattle.std.specs.Prelude.{◌≡◌, Bool, List, [], ◌∷◌, ℕ, ℤ, Option, Result}
use Rattle.refusal.specs.Paper.{paper, Outcome, taken, refused}
use Rattle.refusal.specs.declared.Part.{Part}
use Rattle.bencode_scalar.specs.Written.{decimal, written_string, written_int}
use Rattle.bencode_walk.specs.Walk.{seen_paper, entry_paper, seek_paper}
use Rattle.bencode_walk.specs.declared.Seen.{Seen}
use Rattle.bencode_walk.specs.declared.Next.{Next}
use Rattle.bencode_walk.specs.declared.Sought.{Sought}
use Rattle.bencode_writer.specs.Escaped.{small_hex}
use Rattle.torrent_blocks.specs.declared.PieceNumber.{PieceNumber}
use Rattle.torrent_blocks.specs.declared.PieceOffset.{PieceOffset}
use Rattle.torrent_metainfo.specs.declared.Torrent.{Torrent}
use Rattle.torrent_authoring.specs.Writing.{Fields, fields}
use Rattle.torrent_contents.specs.Paths.{element_paper}
use Rattle.torrent_contents.specs.declared.Element.{Element}
use Rattle.torrent_contents.specs.declared.Entry.{Entry as FileEntry}
use Rattle.torrent_lines.specs.Lines.{listing_of}
use Rattle.tracker.specs.Entries.{PeerEntry, packed_paper, listed_paper}
use Rattle.tracker.specs.Reply.{Answer}
use Rattle.tracker.specs.Reading.{peer_paper, reply_paper}
use Rattle.tracker.specs.declared.Reply.{Reply}
use Rattle.tracker.specs.declared.Found.{Found as PeerFound}
use Rattle.sheets.specs.declared.Found as address
use Rattle.sheets.specs.declared.Source.TheVariants.{Torrent as OfTorrent, Sheet as OfSheet}
use Rattle.sheets.specs.Reading.{told, about}
use Rattle.links.specs.Reading.{linked_paper}
use Rattle.peer_wire.specs.Handshake.{handshake, zeros}
use Rattle.peer_wire.specs.Message.{body, encode, keepalive, have, bitfield, request, piece, cancel}
use Rattle.week.specs.declared.Entry.{Entry as PackageEntry}
use Rattle.demands.specs.One.{Lent, before}
use Rattle.demands.specs.One.Doors.Bencode as bencode
use Rattle.demands.specs.One.Doors.Walk as walk
use Rattle.demands.specs.One.Doors.Metainfo as metainfo
use Rattle.demands.specs.One.Doors.Contents as contents
use Rattle.demands.specs.One.Doors.Tracker as tracker
use Rattle.demands.specs.One.Doors.Sheets as sheets
use Rattle.demands.specs.One.Doors.Links as links
use Rattle.demands.specs.One.Doors.Week as week
use Rattle.demands.specs.One.Doors.Lines as lines
use Rattle.demands.specs.One.Doors.WireWriting as writing
use Rattle.demands.specs.One.Inner.Writer as writer

-- what a torrent is asked to be written with
abbrev pub asked : (announce name : Lent (List ℕ)) (pl : ℕ) (pieces : Lent (List ℕ)) (len : ℕ) → Fields
asked announce name pl pieces len = fields (before announce) (before name) pl (before pieces) len

-- ---- calls that read a text as bencode before anything else

-- such a call on the text, with an answer that its contract permits
pub data Reader (text : Lent (List ℕ)) : Type 0 where
  check : (r : Result ℕ Refusal) → bencode.check-ensures text r → Reader text
  torrent : (r : Result Torrent Refusal) → metainfo.read-ensures text r → Reader text
  info-hash : (r : Result (Unit {0}) Refusal) (out : Lent (List ℕ)) → metainfo.info_hash-ensures text r out → Reader text
  a-file : (n : ℕ) (r : Result FileEntry Refusal) → contents.file-ensures text n r → Reader text
  piece-hash : (n : PieceNumber) (r : Result Part Refusal) → contents.piece_hash-ensures text n r → Reader text
  piece-check : (n : PieceNumber) (bytes : Lent (List ℕ)) (r : Result Bool Refusal) → contents.check_piece-ensures text n bytes r → Reader text
  reply : (r : Result Reply Refusal) → tracker.read-ensures text r → Reader text
  a-peer : (n : ℕ) (r : Result PeerFound Refusal) → tracker.peer-ensures text n r → Reader text
  -- the torrent of a sheet's call, and the sheet, which is read once the torrent is taken
  beside-a-sheet : (sheet : Lent (List ℕ)) (r : address.Found) → sheets.find-ensures text sheet r → Reader text
  a-sheet : (torrent : Lent (List ℕ)) (q : Result Torrent Refusal) (t : Torrent) → metainfo.read-ensures torrent q → paper q ≡ taken t → (r : address.Found) → sheets.find-ensures torrent text r → Reader text
  -- the torrent of a link
  a-link-written : (r : Result ℕ Refusal) (out : Lent (List ℕ)) → links.write-ensures text r out → Reader text
  a-link-sized : (r : Result ℕ Refusal) → links.size-ensures text r → Reader text

-- what each hands back
abbrev pub Handed : {text : Lent (List ℕ)} → Reader text → Type 0
Handed (check r c) = ℕ
Handed (torrent r c) = Torrent
Handed (info-hash r out c) = Unit {0}
Handed (a-file n r c) = FileEntry
Handed (piece-hash n r c) = Part
Handed (piece-check n bytes r c) = Bool
Handed (reply r c) = Answer ℕ
Handed (a-peer n r c) = PeerEntry
Handed (beside-a-sheet other r c) = Unit {0}
Handed (a-sheet other q t d e r c) = Unit {0}
Handed (a-link-written r out c) = ℕ
Handed (a-link-sized r c) = ℕ

-- its answer; of two texts what it says of this one
abbrev pub answer_of : {text : Lent (List ℕ)} → (r : Reader text) → Outcome (Handed r)
answer_of (check r c) = paper r
answer_of (torrent r c) = paper r
answer_of (info-hash r out c) = paper r
answer_of (a-file n r c) = paper r
answer_of (piece-hash n r c) = paper r
answer_of (piece-check n bytes r c) = paper r
answer_of (reply r c) = reply_paper r
answer_of (a-peer n r c) = peer_paper r
answer_of (beside-a-sheet other r c) = about OfTorrent (told r)
answer_of (a-sheet other q t d e r c) = about OfSheet (told r)
answer_of (a-link-written r out c) = paper r
answer_of (a-link-sized r c) = paper r

-- ---- the other calls that read a text: a look at a place of one, a week's file, a link

-- such a call, by its contract, refuses by k at p
pub data Refuses (k p : ℕ) : Type 0 where
  a-look : (text : Lent (List ℕ)) (at : ℕ) (r : Result Seen Refusal) → walk.look-ensures text at r → seen_paper r ≡ refused k p → Refuses k p
  an-entry : (text : Lent (List ℕ)) (at : ℕ) (r : Result Next Refusal) → walk.entry-ensures text at r → entry_paper r ≡ refused k p → Refuses k p
  a-search : (text : Lent (List ℕ)) (at : ℕ) (key : Lent (List ℕ)) (r : Result Sought Refusal) → walk.seek-ensures text at key r → seek_paper r ≡ refused k p → Refuses k p
  a-skip : (text : Lent (List ℕ)) (at : ℕ) (r : Result ℕ Refusal) → walk.skip-ensures text at r → paper r ≡ refused k p → Refuses k p
  file-at : (text : Lent (List ℕ)) (at : ℕ) (r : Result File Refusal) → metainfo.file_at-ensures text at r → paper r ≡ refused k p → Refuses k p
  element-at : (text : Lent (List ℕ)) (at : ℕ) (r : Result Element Refusal) → contents.element_at-ensures text at r → element_paper r ≡ refused k p → Refuses k p
  packed-at : (text : Lent (List ℕ)) (at : ℕ) (r : Result (Packed × ℕ) Refusal) → tracker.packed_at-ensures text at r → packed_paper r ≡ refused k p → Refuses k p
  listed-at : (text : Lent (List ℕ)) (at : ℕ) (r : Result (Listed × ℕ) Refusal) → tracker.listed_at-ensures text at r → listed_paper r ≡ refused k p → Refuses k p
  a-week : (file : Lent (List ℕ)) (r : Result Week Refusal) → week.read-ensures file r → paper r ≡ refused k p → Refuses k p
  a-package : (file : Lent (List ℕ)) (index : ℕ) (r : Result PackageEntry Refusal) → week.package-ensures file index r → paper r ≡ refused k p → Refuses k p
  a-table : (file : Lent (List ℕ)) (r : Result ℕ Refusal) → week.table-ensures file r → paper r ≡ refused k p → Refuses k p
  package-at : (file : Lent (List ℕ)) (index : ℕ) (r : Result PackageEntry Refusal) → week.package_at-ensures file index r → paper r ≡ refused k p → Refuses k p
  a-week-written : (bodies lengths : Lent (List ℕ)) (r : Result ℕ Refusal) (out : Lent (List ℕ)) → week.write-ensures bodies lengths r out → paper r ≡ refused k p → Refuses k p
  a-link : (text : Lent (List ℕ)) (r : Result (Option ℕ × Option ℕ) Refusal) (hash name address : Lent (List ℕ)) → links.read-ensures text r hash name address → linked_paper r ≡ refused k p → Refuses k p

-- ---- calls that write a frame

-- such a call, with an answer and an output that its contract permits; `rest` is what follows the frame's length
pub data Frames (r : Result ℕ Refusal) (out : Lent (List ℕ)) : List ℕ → Type 0 where
  raw : (id : ℕ) (payload : Lent (List ℕ)) → writing.raw-ensures id payload r out → Frames r out (id ∷ before payload)
  plain : (id : ℕ) → writing.plain-ensures id r out → Frames r out (id ∷ [])
  a-have : (index : PieceNumber) → writing.have-ensures index r out → Frames r out (body (have index.0))
  a-bitfield : (bits : Lent (List ℕ)) → writing.bitfield-ensures bits r out → Frames r out (body (bitfield (before bits)))
  a-request : (index : PieceNumber) (begin : PieceOffset) (len : ℕ) → writing.request-ensures index begin len r out → Frames r out (body (request index.0 begin.0 len))
  a_piece : (index : PieceNumber) (begin : PieceOffset) (block : Lent (List ℕ)) → writing.piece-ensures index begin block r out → Frames r out (body (piece index.0 begin.0 (before block)))
  a-cancel : (index : PieceNumber) (begin : PieceOffset) (len : ℕ) → writing.cancel-ensures index begin len r out → Frames r out (body (cancel index.0 begin.0 len))

-- ---- calls that put bytes at a place of the output

-- such a call, with an answer and an output that its contract permits; w are the bytes, and `at` is the place
pub data Puts (r : Result ℕ Refusal) (out : Lent (List ℕ)) : List ℕ → ℕ → Type 0 where
  literal : (at : ℕ) (bytes : Lent (List ℕ)) → writer.literal-ensures at bytes r out → Puts r out (before bytes) at
  small-hex : (at : ℕ) (bytes : Lent (List ℕ)) → writer.small_hex-ensures at bytes r out → Puts r out (small_hex (before bytes)) at
  a-decimal : (at n : ℕ) → writer.decimal-ensures at n r out → Puts r out (decimal n) at
  string : (at : ℕ) (bytes : Lent (List ℕ)) → writer.string-ensures at bytes r out → Puts r out (written_string (before bytes)) at
  integer : (at : ℕ) (z : ℤ) → writer.integer-ensures at z r out → Puts r out (written_int z) at
  a-keepalive : writing.keepalive-ensures r out → Puts r out (encode keepalive) 0
  a-handshake : (info peer : Lent (List ℕ)) → writing.handshake-ensures info peer r out → Puts r out (handshake zeros (before info) (before peer)) 0
  a-listing : (text : Lent (List ℕ)) → lines.listing-ensures text r out → Puts r out (listing_of (before text)) 0
