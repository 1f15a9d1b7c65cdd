-- DEMAND 2: exactly the right texts, what is written reads back, and blocks fall where they should. Assumes nothing.
-- Each statement is about any answer r, and any lent output `out`, that the contract of the call named above it permits: its premise is that contract itself, as
-- One/Doors has it from the source. `before text` is what is lent as the call finds it, `after out` as it leaves it.
-- A text is a list of bytes. An outcome is `taken` with what is handed back, or `refused` with number and place.
-- `Encodes s v`: the bytes s are the value v as BEP 3 writes it, and v keeps document 01's limits. It and the other words that are not another crate's stand
-- in demands_laws/specs/Texts.antt, those on where parts stand in Places.antt beside it.
use Rattle.refusal.specs.declared.Refusal.{Refusal}
use Rattle.std.specs.Prelude.{◌≡◌, refl, ◌⊎◌, ◌↔◌, true, false, cond, List, [], ◌∷◌, ◌++◌, ℕ, suc, ◌+◌, ◌-◌, ◌*◌, ◌^◌, ◌≤◌, ◌<◌, min, ℤ, pos, length, get_or, take, drop, Option, Result, Some, Bool}
use Rattle.std.proofs.Common.{sym, ap, ap₂, ◌∙◌, subst, arith}
use mathlib.Core.Logic.Iff
use Rattle.refusal.specs.BigEndian.{Bytes}
use Rattle.refusal.specs.Limits.{most_text}
use Rattle.refusal.specs.Paper.{paper, taken, refused, map}
use Rattle.refusal.specs.Parts.{bytes_at}
use Rattle.refusal.specs.declared.Part.{Part}
use Rattle.bencode_scalar.specs.Written.{written_string, signed, written_int, in_range}
use Rattle.bencode.specs.Value.{Value, Items, Entries, str, int, list, dict, none, item, empty, entry, encode, count, Prev, start, last}
use Rattle.bencode_walk.specs.Walk as heads
use Rattle.bencode_walk.specs.Walk.{string, integer, long, dictionary, end, key, close, entry_paper, seen_paper}
use Rattle.bencode_walk.specs.Stands.{Stands, StandItems, StandEntries}
use Rattle.bencode_walk.specs.declared.Seen.{Seen}
use Rattle.bencode_walk.specs.declared.Next.{Next}
use Rattle.bencode_walk.proofs.Standing as standing
use Rattle.bencode_walk.proofs.Telling as telling
use Rattle.bencode_walk.proofs.Standing.{fine-stands}
use Rattle.bencode_walk.specs.Has.{Has}
use Rattle.bencode_walk.specs.Lookup.{under, lookup}
use Rattle.bencode_fields.specs.Looks.{ending_at, ranged}
use Rattle.bencode_fields.proofs.Standing as known
use Rattle.bencode_writer.specs.Put.{Left as Putting, left, put_of, Ran}
use Rattle.hash_sha1.specs.Sha1.{sha1}
use Rattle.hash_sha1.specs.Digest.{Left as Hashing}
use Rattle.torrent_blocks.specs.Rules.{sum, Lawful, pieces_of}
use Rattle.torrent_blocks.specs.Spans.{FilePart, part, joined_files, parts_of}
use Rattle.torrent_blocks.specs.Answers.{Spot, place_paper, block_of, flat}
use Rattle.torrent_blocks.specs.declared.PieceNumber.{PieceNumber}
use Rattle.torrent_blocks.specs.declared.PieceOffset.{PieceOffset}
use Rattle.torrent_blocks.specs.declared.Spot.{Spot as Place}
use Rattle.torrent_blocks.specs.Covers.{run, places_of, Neat}
use Rattle.torrent_blocks.proofs.Unique.{covers-unique}
use Rattle.torrent_blocks.proofs.Whole as whole
use Rattle.torrent_blocks.proofs.Joined.{joined-laid, joined-ordered}
use Rattle.peer_wire.specs.Message.{Message, FieldsFit, body, keepalive, framed, encode as frame_of}
use Rattle.peer_wire.specs.Frames.{found, message_in, read_of, meant, Lengths, stream_of, encode_all, KeepAll, read_paper}
use Rattle.peer_wire.specs.declared.Greeting.{Greeting}
use Rattle.peer_wire.specs.declared.Read.{Read}
use Rattle.peer_wire.specs.Handshake.{hello, name, handshake, zeros, shake_of, greeting_paper}
use Rattle.peer_wire.specs.Causes.{Zero, All, Right, named}
use Rattle.peer_wire.proofs.Decided as decided
use Rattle.peer_wire.proofs.Exact as frames
use Rattle.peer_wire.proofs.Written as framing
use Rattle.peer_wire.proofs.Shaking as shaking
use Rattle.torrent_metainfo.specs.Keys.{announce_key, info_key, files_key, length_key, name_key, piece_length_key, pieces_key}
use Rattle.torrent_metainfo.specs.Reading.{read_of as torrent_read}
use Rattle.torrent_metainfo.specs.declared.Torrent.{Torrent}
use Rattle.torrent_laws.specs.Torrent.{GoodName, OneFile, single, many, TorrentSays, IsTorrent, lengths_in, sizes_of}
use Rattle.torrent_laws.specs.Exact.{is_single, files_under, StandsAt, PathAt, EachAt}
use Rattle.torrent_laws.proofs.Laws as torrents
use Rattle.torrent_laws.proofs.Determined as said
use Rattle.bencode_fields.specs.Nth.{nth}
use Rattle.torrent_contents.specs.Paths.{element, done, element_paper}
use Rattle.torrent_contents.specs.declared.Element.{Element}
use Rattle.torrent_contents.specs.declared.Entry as file-entry
use Rattle.torrent_authoring.specs.Writing.{fields, top_with, info_with, Fields as Torrents, write_of as author_of}
use Rattle.torrent_authoring.specs.Reading.{only}
use Rattle.torrent_authoring.proofs.Written as authored
use Rattle.torrent_authoring.proofs.Rewriting as again
use Rattle.tracker.specs.Keys.{interval, peers}
use Rattle.tracker.specs.Entries.{PeerEntry}
use Rattle.tracker.specs.Reply.{Answer, compact, sixes, counted, reply_of, nth_of}
use Rattle.tracker.specs.Reading.{entries_in, peer_paper, reply_paper}
use Rattle.tracker.specs.Writing.{write_of as reply_write}
use Rattle.tracker.specs.Exact.{IsReply, said_entries, ReplySays, ShowsReply}
use Rattle.tracker.specs.Walks.{Walked}
use Rattle.tracker.specs.declared.Reply.{Reply}
use Rattle.tracker.specs.declared.Found.{Found as PeerFound}
use Rattle.tracker.proofs.Numbering.{entries-said}
use Rattle.tracker.proofs.Walking.{walked}
use Rattle.sheets.specs.Sheet.{IsSheet, address_of}
use Rattle.sheets.specs.Reading.{Answered, of, told, chosen, part_in_of, find_of}
use Rattle.sheets.specs.declared.Found as address
use Rattle.sheets.specs.declared.Source.TheVariants.{Torrent as OfTorrent, Sheet as OfSheet}
use Rattle.links.specs.Link.{Meaning}
use Rattle.links_laws.specs.Form.{IsLink}
use Rattle.links.specs.Reading.{Sizes, size_of, given_of, left_of, Left as Linking, linked_paper}
use Rattle.links.specs.Writing.{text_of, write_of}
use Rattle.links_laws.proofs.Laws as link-laws
use Rattle.torrent_lines.specs.Lines.{refused_line}
use Rattle.week.specs.File.{Package, bodies_of, table_bytes, file_of}
use Rattle.week.specs.Rules.{week_of, package_of}
use Rattle.week.specs.Writing.{write_of as week_text_of}
use Rattle.week.specs.declared.Entry.{Entry as PackageEntry}
use Rattle.week.specs.declared.Week.{Week}
use Rattle.week_laws.specs.Week.{IsWeek, all_files, all_bytes, answer_of, entry_of as package_entry, lengths_of}
use Rattle.week_laws.proofs.Laws as week-laws
use Rattle.week_laws.proofs.Back as week-back
use Rattle.week_laws.specs.Lines.{lines_of}
use Rattle.week_laws.proofs.Listing as week-listing
use Rattle.week_laws.proofs.Returning as week-returning
use Rattle.demands_laws.specs.Texts.{Encodes, no_file, IsPiece, Agrees, link_of, bytes_in}
use Rattle.demands_laws.specs.Places.{PartUnder, FilesPlaced, ReplyPlaced}
use Rattle.demands_laws.proofs.Refusals.{same_answer, left-answer, some-answer}
use Rattle.demands_laws.proofs.Texts as texts
use Rattle.demands_laws.proofs.Texts.{fine}
use Rattle.demands_laws.proofs.Places as places
use Rattle.demands_laws.proofs.Files as files
use Rattle.demands_laws.proofs.Frames as reading
use Rattle.demands_laws.proofs.Rewriting as rewriting
use Rattle.demands_laws.proofs.Pieces as pieces
use Rattle.demands_laws.proofs.Blocks as blocks-laws
use Rattle.demands_laws.proofs.Paths as paths
use Rattle.demands_laws.proofs.Sheets as sheets-laws
use Rattle.demands_laws.proofs.Links as links-laws
use Rattle.demands.specs.One.{Lent, Ref, now, before, after}
use Rattle.demands.specs.One.Alike.{Frames, asked}
use Rattle.demands.proofs.One.Alike.{as-framed}
use Rattle.demands.specs.One.Doors.Bencode as bencode
use Rattle.demands.specs.One.Doors.Walk as walk
use Rattle.demands.specs.One.Inner.Fields as fields
use Rattle.demands.specs.One.Doors.Metainfo as metainfo
use Rattle.demands.specs.One.Doors.Contents as contents
use Rattle.demands.specs.One.Doors.Authoring as authoring
use Rattle.demands.specs.One.Doors.Tracker as tracker
use Rattle.demands.specs.One.Doors.TrackerWriting as replies
use Rattle.demands.specs.One.Doors.Sheets as sheets
use Rattle.demands.specs.One.Doors.Links as links
use Rattle.demands.specs.One.Doors.Week as week
use Rattle.demands.specs.One.Doors.Blocks as blocks
use Rattle.demands.specs.One.Doors.Wire as wire
use Rattle.demands.specs.One.Doors.WireWriting as writing
use Rattle.demands.specs.Two.{ReadsBack}

-- ---- 5. "Taken exactly when its bytes are the BEP 3 encoding of a value that keeps the rules"; "an accepted text comes with its count of values, which equals the count in the decoded value."

-- of bencode::check
module _ (text : Lent (List ℕ)) (r : Result ℕ Refusal) (c : bencode.check-ensures text r) where
  pub decode-exact : (n : ℕ) → paper r ≡ taken n ↔ ((v : Value) × Encodes (before text) v × (count v ≡ n))
  decode-exact n = Iff.trans (same_answer c.0) (texts.count-exact (before text) n)

-- and a text is the encoding of one value at most
pub one_value : (s : List ℕ) (v w : Value) → Encodes s v → Encodes s w → v ≡ w
one_value = texts.one_value

-- ---- The walk over an accepted text, and "Strings are handed back as parts of the text": the value of the text stands at 0, and the calls below tell what stands at
-- a place. `Stands s d at v`: v, of at most d levels, stands at that place of s; the items of a list and the entries of a dictionary likewise, up to their e

pub text-stands : (s : List ℕ) (v : Value) → Encodes s v → Stands s 32 0 v
text-stands s v e = fine-stands s v (fine e)

-- an item and those after it
pub items-stand : (s : List ℕ) (d at : ℕ) (v : Value) (vs : Items) → StandItems s d at (item v vs) → Stands s d at v × StandItems s d (at + length (encode v)) vs
items-stand = standing.items-next

-- of bencode_walk::look, and bencode_walk::bytes on the part that it hands back
module _ (text : Lent (List ℕ)) (at : ℕ) (r : Result Seen Refusal) (c : walk.look-ensures text at r) (d : ℕ) where
  pub look-string : (bs : List ℕ) → Stands (before text) d at (str bs)
      → (p : Part) × (seen_paper r ≡ taken (string p.from p.len (at + length (written_string bs)))) × (p.len ≡ length bs) × ((b : Ref (List ℕ)) → walk.bytes-ensures text p b → now b ≡ bs)
  look-string bs t = let x = standing.string-stands (before text) d at bs t in (record { from = x.from; len = length bs }, c ∙ x.seen, refl, λ b e. e.0 ∙ x.bytes)

  -- "hands one outside 64 bits back as the text part with sign and digits": at any place of any text, the number told is the integer that stands there, for all of -2^63 to
  -- 2^63 - 1 (`in_range_of`), and every other is told by the bytes between its i and its e
  pub look-number : (z : ℤ) (q : ℕ) → seen_paper r ≡ taken (integer z q) ↔ ((in_range z ≡ true) × Stands (before text) d at (int z) × (q ≡ at + length (written_int z)))
  look-number z q = Iff.trans (same_answer c) (telling.number-exact (before text) d at z q)

  pub look-long : (p : Part) (q : ℕ) → seen_paper r ≡ taken (long p.from p.len q)
      ↔ ((z : ℤ) × (in_range z ≡ false) × Stands (before text) d at (int z) × (q ≡ at + length (written_int z)) × (p.from ≡ at + 1) × (p.len ≡ length (signed z)))
  look-long p q = Iff.trans (same_answer c) (telling.long-exact (before text) d at p.from p.len q)

  -- which are its sign and digits
  pub long-bytes : (z : ℤ) → Stands (before text) d at (int z) → (b : Ref (List ℕ)) → walk.bytes-ensures text (record { from = at + 1; len = length (signed z) }) b → now b ≡ signed z
  long-bytes z t b e = e.0 ∙ standing.digits-stand (before text) d at z t

  pub look-list : (vs : Items) → Stands (before text) d at (list vs) → (seen_paper r ≡ taken (heads.list (at + 1))) × ((e : ℕ) × (d ≡ suc e) × StandItems (before text) e (at + 1) vs)
  look-list vs t = let x = standing.list-stands (before text) d at vs t in (c ∙ x.0, x.1)

  pub look-dictionary : (es : Entries) → Stands (before text) d at (dict es)
      → (seen_paper r ≡ taken (dictionary (at + 1))) × ((e : ℕ) × (d ≡ suc e) × StandEntries (before text) e (at + 1) start es)
  look-dictionary es t = let x = standing.dictionary-stands (before text) d at es t in (c ∙ x.0, x.1)

  pub look-end : StandItems (before text) d at none → seen_paper r ≡ taken (end (at + 1))
  look-end t = c ∙ standing.items-end (before text) d at t

-- "Known keys with such a number are out of range": what every reader asks a known key by, at any place of any text where an integer stands
-- of bencode_fields::natural_at: it is the number from 0 to `most`, or else 11 at its place, whatever integer it is
pub known-number : (text : Lent (List ℕ)) (at most : ℕ) (r : Result ℕ Refusal) → fields.natural_at-ensures text at most r → (d : ℕ) (z : ℤ) → most < 2 ^ 63 → Stands (before text) d at (int z) → paper r ≡ ranged most at z
known-number text at most r c d z h t = c ∙ known.natural-is (before text) d at most h (int z) t

-- of bencode_fields::number_at: the same, and the place past it
pub known_past : (text : Lent (List ℕ)) (at most : ℕ) (r : Result (ℕ × ℕ) Refusal) → fields.number_at-ensures text at most r → (d : ℕ) (z : ℤ) → most < 2 ^ 63 → Stands (before text) d at (int z)
    → paper r ≡ map (ending_at (at + length (encode (int z)))) (ranged most at z)
known_past text at most r c d z h t = c ∙ known.number_is (before text) d at most h (int z) t

-- of bencode_fields::string_at: 10 at its place
pub known-string : (text : Lent (List ℕ)) (at : ℕ) (r : Result Part Refusal) → fields.string_at-ensures text at r → (d : ℕ) (z : ℤ) → Stands (before text) d at (int z) → paper r ≡ refused 10 at
known-string text at r c d z t = c ∙ known.string-is (before text) d at (int z) t

-- of bencode_fields::list_at
pub known-list : (text : Lent (List ℕ)) (at : ℕ) (r : Result ℕ Refusal) → fields.list_at-ensures text at r → (d : ℕ) (z : ℤ) → Stands (before text) d at (int z) → paper r ≡ refused 10 at
known-list text at r c d z t = c ∙ known.list-is (before text) d at (int z) t

-- of bencode_fields::dictionary_at
pub known-dictionary : (text : Lent (List ℕ)) (at : ℕ) (r : Result ℕ Refusal) → fields.dictionary_at-ensures text at r → (d : ℕ) (z : ℤ) → Stands (before text) d at (int z) → paper r ≡ refused 10 at
known-dictionary text at r c d z t = c ∙ known.dictionary-is (before text) d at (int z) t

-- of bencode_walk::entry: the key's bytes, its value past it, and the entries after that
module _ (text : Lent (List ℕ)) (at : ℕ) (r : Result Next Refusal) (c : walk.entry-ensures text at r) (d : ℕ) (earlier : Prev) where
  pub entry_key : (k : List ℕ) (v : Value) (es : Entries) → StandEntries (before text) d at earlier (entry k v es)
      → (p : Part) × (entry_paper r ≡ taken (key p.from p.len (at + length (written_string k)))) × (p.len ≡ length k) × ((b : Ref (List ℕ)) → walk.bytes-ensures text p b → now b ≡ k)
      × Stands (before text) d (at + length (written_string k)) v × StandEntries (before text) d (at + length (written_string k) + length (encode v)) (last k) es
  entry_key k v es t =
      let x = standing.entries_next (before text) d at earlier k v es t in
      (record { from = x.from; len = length k }, c ∙ x.seen, refl, λ b e. e.0 ∙ x.bytes, x.value, x.others)

  pub entry-end : StandEntries (before text) d at earlier empty → entry_paper r ≡ taken (close (at + 1))
  entry-end t = c ∙ standing.entries-end (before text) d at earlier t

-- of bencode_walk::skip: past the value that stands there; and on any text what it goes past stands there
module _ (text : Lent (List ℕ)) (at : ℕ) (r : Result ℕ Refusal) (c : walk.skip-ensures text at r) where
  pub skip-past : (d : ℕ) (v : Value) → d ≤ 32 → Stands (before text) d at v → paper r ≡ taken (at + length (encode v))
  skip-past d v l t = c ∙ standing.skip-past (before text) d at v l t

  pub skip-stands : (q : ℕ) → paper r ≡ taken q → (v : Value) × Stands (before text) 32 at v × (q ≡ at + length (encode v))
  skip-stands q e = standing.skip-stands (before text) at q (sym c ∙ e)

-- ---- 6. "A torrent or reply is taken exactly when its bytes are the BEP 3 encoding of a value that keeps the rules."

-- of torrent_metainfo::read
module _ (text : Lent (List ℕ)) (r : Result Torrent Refusal) (c : metainfo.read-ensures text r) where
  pub torrent-exact : ((x : Torrent) × (paper r ≡ taken x)) ↔ ((v : Value) × (t : TorrentSays) × Encodes (before text) v × IsTorrent v t)
  torrent-exact = Iff.trans (some-answer c) (texts.torrent-exact (before text))

  -- and the fields handed back are that value's: strings as the very part of the text, info as its dictionary is written, and the files one by one
  pub torrent-fields : (x : Torrent) → paper r ≡ taken x → (v : Value) (t : TorrentSays) → Encodes (before text) v → IsTorrent v t
      → (bytes_at (before text) x.announce ≡ t.announce)
      × (bytes_at (before text) x.info ≡ encode (dict t.info))
      × (bytes_at (before text) x.name ≡ t.name)
      × (bytes_at (before text) x.pieces ≡ t.pieces)
      × (x.piece_length ≡ t.piece-length)
      × (x.piece_count ≡ t.count)
      × (x.content.single ≡ is_single t.files)
      × (x.content.files ≡ length (lengths_in t.files))
      × (x.content.total ≡ sum (lengths_in t.files))
      × ((w : Value) × Has t.info (files_under t.files) w × StandsAt (before text) x.content.place w)
      × EachAt (before text) (x.content.place + 1) t.files
  torrent-fields x e v t n i =
      let w = texts.torrent-shown (before text) x (sym c ∙ e) v t n i in
      let f = w.files in
      (w.announce, w.info, w.name, w.pieces, w.piece-length, w.count, f.one, f.files, f.total, f.place, f.each)

  -- and where they stand: each string is the very part of the text under its key, past its length and colon; info is its dictionary, and the content's place
  -- is that of the value under length or files. `lookup` gives the place of what is under a key, from where the dictionary's first key stands
  pub torrent-places : (x : Torrent) → paper r ≡ taken x → (es : Entries) → Encodes (before text) (dict es)
      → PartUnder 1 es announce_key x.announce
      × ((q : ℕ) × (is : Entries) × (lookup 1 es info_key ≡ under q (dict is))
      × (x.info ≡ record { from = q; len = length (encode (dict is)) })
      × PartUnder (q + 1) is name_key x.name
      × PartUnder (q + 1) is pieces_key x.pieces
      × ((w : Value) × (lookup (q + 1) is (cond x.content.single length_key files_key) ≡ under x.content.place w)))
  torrent-places x e es n = let t = places.torrent-placed (before text) x (sym c ∙ e) es n in let i = t.1 in (t.0, (i.0, i.1, i.2, i.3.0, i.3.1, i.3.2, i.3.3))

-- of torrent_metainfo::announce and torrent_metainfo::name: what they hand back
pub announce-said : (text : Lent (List ℕ)) (r : Ref (List ℕ)) → metainfo.announce-ensures text r → (v : Value) (t : TorrentSays) → Encodes (before text) v → IsTorrent v t → now r ≡ t.announce
announce-said text r c v t e i = c.0 ∙ torrents.announce-said (before text) v t (fine e) i

pub name-said : (text : Lent (List ℕ)) (r : Ref (List ℕ)) → metainfo.name-ensures text r → (v : Value) (t : TorrentSays) → Encodes (before text) v → IsTorrent v t → now r ≡ t.name
name-said text r c v t e i = c.0 ∙ torrents.name-said (before text) v t (fine e) i

-- of torrent_contents::file: file number n of a torrent of many files has its length and path, starts where those before it end, and is not said to
-- be the only one; beyond the last it is 31
pub file-exact : (text : Lent (List ℕ)) (n : ℕ) (r : Result file-entry.Entry Refusal) → contents.file-ensures text n r → (v : Value) (t : TorrentSays) → Encodes (before text) v → IsTorrent v t → (fs : List OneFile) → t.files ≡ many fs
    → (n < length fs → (e : file-entry.Entry) × (paper r ≡ taken e) × (e.offset.0 ≡ sum (take n (sizes_of fs))) × (e.length ≡ (get_or fs n no_file).size) × PathAt (before text) e.path (get_or fs n no_file).path × (e.single ≡ false))
    × (length fs ≤ n → paper r ≡ refused 31 0)
file-exact text n r c v t e i fs f = let h = files.file-said (before text) n v t e i fs f in (λ l. let (x, y, z) = h.0 l in (x, c ∙ y, z.0, z.1, z.2, z.3), λ l. c ∙ h.1 l)

-- and of a torrent of one file: file 0 has its length and its name and is said to be the only one, and any other number is 31
pub one-file-exact : (text : Lent (List ℕ)) (n : ℕ) (r : Result file-entry.Entry Refusal) → contents.file-ensures text n r → (v : Value) (t : TorrentSays) → Encodes (before text) v → IsTorrent v t → (m : ℕ) → t.files ≡ single m
    → (n ≡ 0 → (e : file-entry.Entry) × (paper r ≡ taken e) × (e.offset.0 ≡ 0) × (e.length ≡ m) × (take (length t.name) (drop e.path (before text)) ≡ t.name) × (e.single ≡ true))
    × (1 ≤ n → paper r ≡ refused 31 0)
one-file-exact text n r c v t e i m f = let h = files.one-file-said (before text) n v t e i m f in (λ l. let x = h.0 l in (x.0, c ∙ x.1, x.2, x.3, x.4, x.5), λ l. c ∙ h.1 l)

-- and the place of its path: of one file the name's; of many the first element of the list under path in its own dictionary, the dictionaries standing one after
-- the other in the list under files
module _ (text : Lent (List ℕ)) (n : ℕ) (r : Result file-entry.Entry Refusal) (c : contents.file-ensures text n r) (e : file-entry.Entry) (h : paper r ≡ taken e)
    (g : Result Torrent Refusal) (d : metainfo.read-ensures text g) (x : Torrent) (t : paper g ≡ taken x) (es : Entries) (k : Encodes (before text) (dict es)) where
  pub only_file-place : x.content.single ≡ true → n ≡ 0 → e.path ≡ x.name.from
  only_file-place = places.only-placed (before text) n es k x (sym d ∙ t) e (sym c ∙ h)

  pub file-place : x.content.single ≡ false
      → (q : ℕ) × (is : Entries) × (vs : Items) × (l : List file-entry.Entry)
      × (lookup 1 es info_key ≡ under q (dict is)) × (lookup (q + 1) is files_key ≡ under x.content.place (list vs))
      × FilesPlaced (x.content.place + 1) vs l × (nth n l ≡ taken e)
  file-place = places.many-placed (before text) n es k x (sym d ∙ t) e (sym c ∙ h)

-- of torrent_contents::element_at, from the place of a path on (`PathAt`, by which file-exact tells it) in a text that is not too long: the first element, as a part of the
-- text, and the place of the others; then the end
module _ (text : Lent (List ℕ)) (short : length (before text) ≤ most_text) (at : ℕ) (r : Result Element Refusal) (c : contents.element_at-ensures text at r) where
  pub path-next : (x : List ℕ) (l : List (List ℕ)) → PathAt (before text) at (x ∷ l) → GoodName x
      → (p : Part) × (element_paper r ≡ taken (element p (at + length (written_string x)))) × (bytes_at (before text) p ≡ x) × PathAt (before text) (at + length (written_string x)) l
  path-next x l t g = let y = paths.path-next (before text) at short x l t g in (y.0, c ∙ y.1, y.2, y.3)

  pub path-end : PathAt (before text) at [] → element_paper r ≡ taken (done (at + 1))
  path-end t = c ∙ paths.path-end (before text) at short t

-- a value says one thing as a torrent
pub torrent-says-one : (s : List ℕ) (v : Value) (t u : TorrentSays) → Encodes s v → IsTorrent v t → IsTorrent v u → t ≡ u
torrent-says-one s v t u e i j = said.said-determined v 32 t u e.1 i j

-- of tracker::read
module _ (text : Lent (List ℕ)) (r : Result Reply Refusal) (c : tracker.read-ensures text r) where
  pub reply-exact : ((x : Answer ℕ) × (reply_paper r ≡ taken x)) ↔ ((v : Value) × (t : ReplySays) × Encodes (before text) v × IsReply v t)
  reply-exact = Iff.trans (some-answer c) (texts.reply-exact (before text))

  -- and what is handed back is that value's: why it failed, or the seconds and as many entries as it has; from the first entry's place on they can be
  -- walked in order, and tracker::peer gives each by its number
  pub reply-fields : (x : Answer ℕ) → reply_paper r ≡ taken x → (v : Value) (t : ReplySays) → Encodes (before text) v → IsReply v t
      → (y : Answer (List PeerEntry)) × (x ≡ counted y) × ShowsReply (before text) y t × (entries_in x ≡ said_entries t) × Walked (before text) y
      × ((n : ℕ) (f : Result PeerFound Refusal) → tracker.peer-ensures text n f → peer_paper f ≡ nth_of n y)
  reply-fields x p v t e i =
      let (y, d, z) = texts.replied (before text) c x p in
      let w = texts.reply-shown (before text) y d v t e i in
      (y, z, w, ap entries_in z ∙ entries-said (before text) y t w, walked (before text) y d, λ n f g. g ∙ texts.entry-of (before text) y d n)

  -- and where it stands: the failure reason and each entry's id and ip are the very parts under their keys, and the first entry's place is in the value under
  -- peers
  pub reply-places : (x : Answer ℕ) → reply_paper r ≡ taken x → (es : Entries) → Encodes (before text) (dict es)
      → (y : Answer (List PeerEntry)) × (x ≡ counted y) × ReplyPlaced es y × ((n : ℕ) (f : Result PeerFound Refusal) → tracker.peer-ensures text n f → peer_paper f ≡ nth_of n y)
  reply-places x p es e = let (y, d, z) = texts.replied (before text) c x p in (y, z, places.reply-placed (before text) es e y d, λ n f g. g ∙ texts.entry-of (before text) y d n)

-- ---- Change request 1: "For a torrent and a sheet, give back the address as the part of the sheet if the hash stands there, else as the torrent's announce part. The sheet is checked in full
-- either way, after the torrent."

-- of sheets::find
module _ (torrent sheet : Lent (List ℕ)) (r : address.Found) (c : sheets.find-ensures torrent sheet r) where
  -- taken exactly when the one text is the encoding of a torrent and the other that of a sheet, and both keep the limits
  pub sheet-exact : ((p : Part) × (paper r.part ≡ taken p)) ↔ (((v : Value) × (t : TorrentSays) × Encodes (before torrent) v × IsTorrent v t) × ((w : Value) × Encodes (before sheet) w × IsSheet w))
  sheet-exact = Iff.trans (some-answer (ap (λ (x : Answered). x.what) c)) (sheets-laws.exact (before torrent) (before sheet))

  module _ (v : Value) (t : TorrentSays) (e : Encodes (before torrent) v) (i : IsTorrent v t) where
    -- and the bytes of the part are the address by the two values
    pub address-right : (w : Value) → Encodes (before sheet) w → IsSheet w
        → (p : Part) × (bs : List ℕ) × (address_of v w ≡ str bs) × (paper r.part ≡ taken p) × (bytes_at (chosen r.source (before torrent) (before sheet)) p ≡ bs)
    address-right w n j =
        let (p, bs, a, h, b) = sheets-laws.right (before torrent) (before sheet) v t e i w n j in
        (p, bs, a, ap (λ (x : Answered). x.what) c ∙ h, ap (λ (x : Answered). bytes_at (chosen x.source (before torrent) (before sheet)) p) c ∙ b)

    -- where they stand: in the sheet under the info hash, or else in the torrent under announce
    module _ (es : Entries) (n : Encodes (before sheet) (dict es)) (j : IsSheet (dict es)) where
      pub address-listed : (bs : List ℕ) → Has es (sha1 (encode (dict t.info))) (str bs) → (p : Part) × (told r ≡ of OfSheet (taken p)) × PartUnder 1 es (sha1 (encode (dict t.info))) p
      address-listed bs h = let (p, a, b) = sheets-laws.placed-listed (before torrent) (before sheet) v t e i es n j bs h in (p, c ∙ a, b)

      pub address-unlisted : (ts : Entries) → v ≡ dict ts → ((w : Value) → Has es (sha1 (encode (dict t.info))) w → ⊥) → (p : Part) × (told r ≡ of OfTorrent (taken p)) × PartUnder 1 ts announce_key p
      address-unlisted ts f h = let (p, a, b) = sheets-laws.placed-unlisted (before torrent) (before sheet) v t e i es n j ts f h in (p, c ∙ a, b)

-- of sheets::address: those very bytes, of which its contract says where they lie
pub address-said : (torrent sheet : Lent (List ℕ)) (r : Ref (List ℕ)) → sheets.address-ensures torrent sheet r → (v : Value) (t : TorrentSays) → Encodes (before torrent) v → IsTorrent v t
    → (w : Value) → Encodes (before sheet) w → IsSheet w → (bs : List ℕ) × (address_of v w ≡ str bs) × (now r ≡ bs)
address-said torrent sheet r c v t e i w n j =
    let (p, bs, a, h, b) = sheets-laws.right (before torrent) (before sheet) v t e i w n j in
    (bs, a, c.0 ∙ ap (λ o. bytes_at (chosen (find_of (before torrent) (before sheet)).source (before torrent) (before sheet)) (part_in_of o)) h ∙ b)

-- ---- Change request 4: "Read links with these parameters in any order: exactly one xt (`urn:btih:` and the hash), at most one dn and one tr, hex in either case, unknown names skipped. After
-- `magnet:?` come name=value pairs parted by &; names are one or more letters, digits or dots; values hold bytes 33 to 126 but & and #, and after % come two hex digits. dn and tr are decoded into
-- lent outputs."

-- of links::read
module _ (text : Lent (List ℕ)) (r : Result (Option ℕ × Option ℕ) Refusal) (hash name address : Lent (List ℕ)) (c : links.read-ensures text r hash name address) where
  -- taken exactly when the text, of at most 1,048,576 bytes, is a link that says m, and both outputs have room for what it says
  pub link-exact : ((x : Sizes) × (linked_paper r ≡ taken x))
      ↔ ((m : Meaning) × (length (before text) ≤ most_text) × IsLink (before text) m × (size_of m.name ≤ length (before name)) × (size_of m.address ≤ length (before address)))
  link-exact = Iff.trans (some-answer (ap (λ (x : Linking). x.answer) c)) (links-laws.exact (before text) (before hash) (before name) (before address))

  -- and what is handed back is what the link says: the hash; of name and address that they are absent or how many bytes they have, and those at the front of their
  -- outputs, which past them stay
  pub link-fields : (x : Sizes) → linked_paper r ≡ taken x → (m : Meaning) → IsLink (before text) m
      → (x.name ≡ given_of m.name) × (x.address ≡ given_of m.address)
      × (after hash ≡ m.hash)
      × (after name ≡ bytes_in m.name ++ drop (size_of m.name) (before name))
      × (after address ≡ bytes_in m.address ++ drop (size_of m.address) (before address))
  link-fields x e m i = links-laws.fields (before text) (before hash) (before name) (before address) c x e m i

-- a text says one thing as a link
pub link-says-one : (s : List ℕ) (m n : Meaning) → IsLink s m → IsLink s n → m ≡ n
link-says-one = link-laws.one-meaning

-- "Write one from a torrent by BEP 9: xt with 40 lower-case hex digits of the hash, then dn, then tr; bytes outside RFC 3986's unreserved set become % and two capital hex digits."
-- `link_of t` is that link, of the torrent that says t

-- of links::write
module _ (torrent : Lent (List ℕ)) (r : Result ℕ Refusal) (out : Lent (List ℕ)) (c : links.write-ensures torrent r out) where
  -- taken exactly when the text is the encoding of a torrent and keeps the limits, the torrent's link has at most 1,048,576 bytes, and there is room for it
  pub link-write-exact : (q : ℕ) → paper r ≡ taken q
      ↔ ((v : Value) × (t : TorrentSays) × Encodes (before torrent) v × IsTorrent v t × (length (link_of t) ≤ most_text) × (length (link_of t) ≤ length (before out)) × (q ≡ length (link_of t)))
  link-write-exact q = Iff.trans (left-answer c) (links-laws.write-exact (before torrent) (before out) q)

  module _ (q : ℕ) (e : paper r ≡ taken q) (v : Value) (t : TorrentSays) (n : Encodes (before torrent) v) (i : IsTorrent v t) where
    -- and then the output begins with the link, and past it stays
    pub link-written : after out ≡ text_of (sha1 (encode (dict t.info))) t.name t.announce ++ drop q (before out)
    link-written = ap (λ (x : Putting). x.out) c ∙ (links-laws.write-left (before torrent) (before out) q ((left-answer c).0 e) v t n i).1

    -- "A written link reads back as hash, name and address": of links::read on what links::write wrote of numbers that are bytes, into outputs with room
    pub link-reads-back : Bytes (before torrent) → (text : Lent (List ℕ)) (l : Result (Option ℕ × Option ℕ) Refusal) (hash name address : Lent (List ℕ)) → links.read-ensures text l hash name address → before text ≡ take q (after out)
        → length t.name ≤ length (before name) → length t.announce ≤ length (before address)
        → (linked_paper l ≡ taken (record { name = Some (length t.name); address = Some (length t.announce) }))
        × (after hash ≡ sha1 (encode (dict t.info)))
        × (after name ≡ t.name ++ drop (length t.name) (before name))
        × (after address ≡ t.announce ++ drop (length t.announce) (before address))
    link-reads-back b text l hash name address d w f g =
        let o : after out ≡ (write_of (before torrent) (before out)).out = ap (λ (x : Putting). x.out) c in
        let z = links-laws.reads-back (before torrent) (before out) q ((left-answer c).0 e) v t n i b (before hash) (before name) (before address) f g in
        let y = d ∙ ap (λ (s : List ℕ). left_of s (before hash) (before name) (before address)) (w ∙ ap (take q) o) ∙ z in
        (ap (λ (x : Linking). x.answer) y, ap (λ (x : Linking). x.hash) y, ap (λ (x : Linking). x.name) y, ap (λ (x : Linking). x.address) y)

-- of links::size: taken exactly when the text is the encoding of a torrent and keeps the limits, and the torrent's link has at most 1,048,576 bytes
module _ (torrent : Lent (List ℕ)) (r : Result ℕ Refusal) (c : links.size-ensures torrent r) where
  pub link-size-exact : (q : ℕ) → paper r ≡ taken q
      ↔ ((v : Value) × (t : TorrentSays) × Encodes (before torrent) v × IsTorrent v t × (length (link_of t) ≤ most_text) × (q ≡ length (link_of t)))
  link-size-exact q = Iff.trans (same_answer c) (links-laws.size_exact (before torrent) q)

  -- and links::write writes so many bytes exactly where there is room for them
  pub link-sized : (p : Result ℕ Refusal) (out : Lent (List ℕ)) → links.write-ensures torrent p out → (q : ℕ) → paper p ≡ taken q ↔ ((paper r ≡ taken q) × (q ≤ length (before out)))
  link-sized p out d q = rw c (Iff.trans (left-answer d) (links-laws.sized (before torrent) (before out) q))

-- ---- Change request 5: "First, four-byte big-endian numbers: the package number N (1 to 256); for each its offset, length and 20-byte info hash; then the bodies back to back in that order, the first right after
-- the table, the last ending the file. Read it, write it, and list it". `file_of ps` is that file of packages ps, each a body and its hash, and `IsWeek s ps ts` says that s is it, that the bodies are torrents that
-- say ts and that their hashes are their own and differ

-- of week::read
module _ (file : Lent (List ℕ)) (r : Result Week Refusal) (c : week.read-ensures file r) where
  -- taken exactly when the file, of numbers that are bytes, is a week's file
  pub week-exact : Bytes (before file) → ((w : Week) × (paper r ≡ taken w)) ↔ ((ps : List Package) × (ts : List TorrentSays) × IsWeek (before file) ps ts)
  week-exact b = Iff.trans (some-answer c) (
    λ (w, e). let (ps, ts, i, z) = week-laws.week-only (before file) b w e in (ps, ts, i),
    λ (ps, ts, i). (answer_of ts, week-laws.week-every (before file) ps ts i),
  )

  -- and then the answer is how many packages it has, and the exact sums over all of their files and of their bytes
  pub week-sums : (ps : List Package) (ts : List TorrentSays) → IsWeek (before file) ps ts → paper r ≡ taken (record { count = length ts; files = all_files ts; total = all_bytes ts })
  week-sums ps ts i = c ∙ week-laws.week-every (before file) ps ts i

-- a file is a week's file in one way
pub week-says-one : (s : List ℕ) (ps qs : List Package) (ts us : List TorrentSays) → IsWeek s ps ts → IsWeek s qs us → (ps ≡ qs) × (ts ≡ us)
week-says-one = week-laws.week-says-one

-- of week::package: package p with its torrent t, the one after qs, by the places of its hash and its body in the file, which hold them, and its files and bytes
module _ (file : Lent (List ℕ)) (index : ℕ) (r : Result PackageEntry Refusal) (c : week.package-ensures file index r) where
  pub week-package : (qs rs : List Package) (p : Package) (us vs : List TorrentSays) (t : TorrentSays) → IsWeek (before file) (qs ++ (p ∷ rs)) (us ++ (t ∷ vs)) → length qs ≡ length us → index ≡ length qs
      → (paper r ≡ taken (package_entry (length (qs ++ (p ∷ rs))) qs p t))
      × (bytes_at (before file) (package_entry (length (qs ++ (p ∷ rs))) qs p t).hash ≡ p.hash) × (bytes_at (before file) (package_entry (length (qs ++ (p ∷ rs))) qs p t).body ≡ p.body)
  week-package qs rs p us vs t i e f =
      let (a, h, b) = week-laws.package-every (before file) qs rs p us vs t i e in
      (c ∙ ap (package_of (before file)) f ∙ a, h, b)

-- the walk: of week::table, and of week::package_at for each package
module _ (file : Lent (List ℕ)) (q : Result ℕ Refusal) (c : week.table-ensures file q) (n : ℕ) (e : paper q ≡ taken n) (told : ℕ → Result PackageEntry Refusal) (d : (i : ℕ) → i < n → week.package_at-ensures file i (told i)) where
  -- where all are taken, so is the file, of so many packages, and week::package says of each what the walk does
  pub week-walked : ((i : ℕ) → i < n → (x : PackageEntry) × (paper (told i) ≡ taken x)) → (r : Result Week Refusal) → week.read-ensures file r
      → (w : Week) × (paper r ≡ taken w) × (w.count ≡ n) × ((i : ℕ) → i < n → (p : Result PackageEntry Refusal) → week.package-ensures file i p → paper p ≡ paper (told i))
  week-walked h r f =
      let (w, a, b, g) = week-laws.walk-taken (before file) n (sym c ∙ e) (λ j l. let (x, y) = h j l in (x, sym (d j l) ∙ y)) in
      (w, f ∙ a, b, λ i l p k. k ∙ g i l ∙ sym (d i l))

  -- and the first refusal is the file's
  pub week-walk-stops : (i : ℕ) → i < n → ((j : ℕ) → j < i → (x : PackageEntry) × (paper (told j) ≡ taken x)) → (k p : ℕ) → paper (told i) ≡ refused k p → (r : Result Week Refusal) → week.read-ensures file r
      → paper r ≡ refused k p
  week-walk-stops i l h k p g r f =
      f ∙ week-laws.walk_refused (before file) n i k p (sym c ∙ e) (λ j m. let (x, y) = h j m in (x, sym (d j (omega (arith, l, m))) ∙ y)) l (sym (d i l) ∙ g)

-- of week::write
module _ (bodies lengths : Lent (List ℕ)) (r : Result ℕ Refusal) (out : Lent (List ℕ)) (c : week.write-ensures bodies lengths r out) where
  -- taken exactly when the bodies, one after the other, and their lengths are those of a week's file, and there is room for it
  pub week-write-exact : (q : ℕ) → paper r ≡ taken q
      ↔ ((w : List ℕ) × (ps : List Package) × (ts : List TorrentSays) × IsWeek w ps ts × (bodies_of ps ≡ before bodies) × (lengths_of ps ≡ before lengths) × (length w ≤ length (before out)) × (q ≡ length w))
  week-write-exact q = Iff.trans (left-answer c) (week-back.write-exact (before bodies) (before lengths) (before out) q)

  -- and then the output begins with that file, and past it stays
  pub week-written : (q : ℕ) → paper r ≡ taken q → (ps : List Package) (ts : List TorrentSays) → IsWeek (file_of ps) ps ts → bodies_of ps ≡ before bodies → lengths_of ps ≡ before lengths
      → after out ≡ file_of ps ++ drop q (before out)
  week-written q e ps ts i b l = ap (λ (x : Putting). x.out) c ∙ (week-back.write-left (before bodies) (before lengths) (before out) q ((left-answer c).0 e) (file_of ps) ps ts i b l).1

  -- "What is written reads back": of week::read on what week::write wrote
  pub week-reads-back : (q : ℕ) → paper r ≡ taken q → (file : Lent (List ℕ)) (x : Result Week Refusal) → week.read-ensures file x → before file ≡ take q (after out)
      → (ps : List Package) × (ts : List TorrentSays) × IsWeek (before file) ps ts × (bodies_of ps ≡ before bodies) × (lengths_of ps ≡ before lengths) × (paper x ≡ taken (answer_of ts))
  week-reads-back q e file x d f =
      let o : before file ≡ take q (week_text_of (before bodies) (before lengths) (before out)).out = f ∙ ap (λ (y : Putting). take q y.out) c in
      let (ps, ts, i, b, l, g) = week-returning.reads-back (before bodies) (before lengths) (before out) q ((left-answer c).0 e) in
      (ps, ts, subst (λ (y : List ℕ). IsWeek y ps ts) (sym o) i, b, l, d ∙ ap week_of o ∙ g)

  -- "rewrite": a file that week::read takes, written again of what stands after its table and of its packages' lengths, gives its bytes, wherever there is room
  pub week-rewrite : (file : Lent (List ℕ)) (x : Result Week Refusal) → week.read-ensures file x → (w : Week) → paper x ≡ taken w → (ps : List Package) (ts : List TorrentSays) → IsWeek (before file) ps ts
      → before bodies ≡ drop (table_bytes w.count) (before file) → before lengths ≡ lengths_of ps → length (before file) ≤ length (before out)
      → (paper r ≡ taken (length (before file))) × (after out ≡ before file ++ drop (length (before file)) (before out))
  week-rewrite file x d w e ps ts i b l k =
      let z = c ∙ week-returning.again (before file) w ps ts i (sym d ∙ e) (before bodies) (before lengths) (before out) b l k in
      (ap (λ (y : Putting). y.answer) z, ap (λ (y : Putting). y.out) z)

-- of week::listing: "for each package a line `HASH FILES BYTES`, the hash as 40 lower-case hex digits, then `N packages F files B bytes`; a refusal prints `refused N at P`"
module _ (file : Lent (List ℕ)) (r : ℕ) (out : Lent (List ℕ)) (c : week.listing-ensures file r out) where
  -- these lines, r bytes of them, stand at the front of the output, which past them stays
  pub week-listed : (ps : List Package) (ts : List TorrentSays) → IsWeek (before file) ps ts → Ran (lines_of ps ts) 0 (before out) r (after out)
  week-listed ps ts i = subst (λ (w : List ℕ). Ran w 0 (before out) r (after out)) (week-listing.listing-every (before file) ps ts i) c.0

  pub week-unlisted : (x : Result Week Refusal) → week.read-ensures file x → (k p : ℕ) → paper x ≡ refused k p → Ran (refused_line k p) 0 (before out) r (after out)
  week-unlisted x d k p e = subst (λ (w : List ℕ). Ran w 0 (before out) r (after out)) (week-listing.listing-refused (before file) k p (sym d ∙ e)) c.0

-- every frame writer of peer_wire::write (`Frames`: One/Alike.antt), and peer_wire::read_frame on what it wrote; m is the message. Past the frame the output stays
pub frame-reads-back : (m : Message (List ℕ)) → FieldsFit m → (r : Result ℕ Refusal) (out : Lent (List ℕ)) → Frames r out (body m) → (q : ℕ) → paper r ≡ taken q
    → (after out ≡ frame_of m ++ drop q (before out)) × ReadsBack out q (λ n. n ≡ m)
frame-reads-back m f r out c q t =
    let b = framing.frame-reads-back m f (before out) r (as-framed r out (body m) c) t in
    (b.0, λ bytes g e w. (b.1.at, e ∙ ap read_of w ∙ b.1.answer, b.1.means))

-- of peer_wire::write::raw, whatever the id: what is read is written so
pub raw-reads-back : (id : ℕ) (payload : Lent (List ℕ)) (r : Result ℕ Refusal) (out : Lent (List ℕ)) → writing.raw-ensures id payload r out → id < 256 → Bytes (before payload) → (q : ℕ) → paper r ≡ taken q
    → (after out ≡ framed (id ∷ before payload) ++ drop q (before out)) × ReadsBack out q (λ n. body n ≡ id ∷ before payload)
raw-reads-back id payload r out c small bytes q t =
    let b = reading.raw-reads-back id (before payload) (before out) small bytes r c t in
    (b.0, λ s f e w. (b.1.0, e ∙ ap read_of w ∙ b.1.1, b.1.2))

-- of peer_wire::write::keepalive
pub keepalive-reads-back : (r : Result ℕ Refusal) (out : Lent (List ℕ)) → writing.keepalive-ensures r out → (q : ℕ) → paper r ≡ taken q
    → (after out ≡ frame_of keepalive ++ drop q (before out)) × ReadsBack out q (λ n. n ≡ keepalive)
keepalive-reads-back r out c q t =
    let b = framing.keepalive-reads-back (before out) r c t in
    (b.0, λ bytes g e w. (b.1.at, e ∙ ap read_of w ∙ b.1.answer, b.1.means))

-- of peer_wire::read_frame, on numbers that are bytes: they begin with a frame of q bytes that says m exactly when they begin with m as it is written, m being one that may be sent
module _ (bytes : Lent (List ℕ)) (r : Result Read Refusal) (c : wire.read_frame-ensures bytes r) where
  pub frame-exact : Bytes (before bytes) → (m : Message (List ℕ)) (q : ℕ) → ((at : Message Part) × (read_paper r ≡ taken (found at q)) × (meant (before bytes) at ≡ m))
      ↔ ((before bytes ≡ frame_of m ++ drop q (before bytes)) × (q ≡ length (frame_of m)) × FieldsFit m × Lengths (body m))
  frame-exact b m q = rw c (reading.frame-exact (before bytes) b m q)

  -- and its parts are those of the frame itself: `message_in` puts each after its id and the numbers before it
  pub frame-parts : (at : Message Part) (q : ℕ) → read_paper r ≡ taken (found at q)
      ↔ ((Zero (before bytes) × (at ≡ keepalive) × (q ≡ 4)) ⊎ (All (before bytes) × Right (before bytes) × (at ≡ message_in (before bytes) (named (before bytes))) × (q ≡ 4 + named (before bytes))))
  frame-parts at q = Iff.trans (same_answer c) (decided.exactly (before bytes) (taken (found at q)))

-- frames written one after the other are read one after the other, each from where the one before ended, whatever follows
pub stream-reads-back : (ms : List (Message (List ℕ))) → KeepAll ms → (rest : List ℕ) → stream_of (length ms) (encode_all ms ++ rest) ≡ record { messages = ms; after = rest }
stream-reads-back = frames.stream-reads-back

-- and of any bytes: the messages that are read, which may be sent, written again, and what is left after them, are the bytes
pub stream-kept : (k : ℕ) (s : List ℕ) → Bytes s → (encode_all (stream_of k s).messages ++ (stream_of k s).after ≡ s) × KeepAll (stream_of k s).messages
stream-kept = frames.stream-kept

-- of peer_wire::write::handshake, and peer_wire::read_handshake on what it wrote: zeros in the free bytes, the hash that was asked for, the peer id
pub handshake-reads-back : (info peer_id : Lent (List ℕ)) (r : Result ℕ Refusal) (out : Lent (List ℕ)) → writing.handshake-ensures info peer_id r out → length (before info) ≡ 20 → length (before peer_id) ≡ 20
    → (q : ℕ) → paper r ≡ taken q
    → (after out ≡ handshake zeros (before info) (before peer_id) ++ drop q (before out))
    × ((bytes wanted : Lent (List ℕ)) (g : Result Greeting Refusal) → wire.read_handshake-ensures bytes wanted g → before bytes ≡ after out → before wanted ≡ before info
    → greeting_paper g ≡ taken (hello (record { from = 20; len = 8 }) (record { from = 48; len = 20 }) q))
    × (take 8 (drop 20 (after out)) ≡ zeros) × (take 20 (drop 48 (after out)) ≡ before peer_id)
handshake-reads-back info peer_id r out c i p q t =
    let b = framing.written-handshake-reads-back (before info) (before peer_id) i p (before out) r c t in
    ((framing.put-at-start (handshake zeros (before info) (before peer_id)) (before out) r c t).1, λ bytes wanted g e w h. e ∙ ap₂ shake_of h w ∙ b.0, b.1, b.2)

-- of peer_wire::read_handshake: greeted exactly when the first 20 bytes are 19 and the name, 68 bytes are there and the hash is the one asked for
pub handshake-exact : (bytes info : Lent (List ℕ)) (r : Result Greeting Refusal) → wire.read_handshake-ensures bytes info r → length (before info) ≡ 20 → (free peer_id : Part) (used : ℕ)
    → greeting_paper r ≡ taken (hello free peer_id used)
    ↔ (((i : ℕ) → i < 20 → i < length (before bytes) → get_or name i 0 ≡ get_or (before bytes) i 0) × (68 ≤ length (before bytes)) × (take 20 (drop 28 (before bytes)) ≡ before info)
    × (free ≡ record { from = 20; len = 8 }) × (peer_id ≡ record { from = 48; len = 20 }) × (used ≡ 68))
handshake-exact bytes info r c l free peer_id used =
    let x = shaking.shake-exactly (before info) (before bytes) l (taken (hello free peer_id used)) in
    Iff.trans (same_answer c) (
      λ e. let h = x.0 e in (h.0.0, h.0.1, h.0.2, h.1, h.2, h.3),
      λ (n, b, h, f, p, u). x.1 ((n, b, h), f, p, u),
    )

-- of tracker::writing::write, n seconds and the entries, and tracker::read and tracker::peer on what it wrote
pub reply-reads-back : (n : ℕ) (entries : Lent (List ℕ)) (r : Result ℕ Refusal) (out : Lent (List ℕ)) → replies.write-ensures n entries r out → (q : ℕ) → paper r ≡ taken q
    → (take q (after out) ≡ encode (dict (entry interval (int (pos n)) (entry peers (str (before entries)) empty))))
    × (drop q (after out) ≡ drop q (before out))
    × ((p : ℕ) × (take (length (before entries)) (drop p (take q (after out))) ≡ before entries)
    × ((text : Lent (List ℕ)) (a : Result Reply Refusal) → tracker.read-ensures text a → before text ≡ take q (after out) → reply_paper a ≡ taken (counted (compact n p (sixes (before entries)))))
    × ((text : Lent (List ℕ)) (i : ℕ) (f : Result PeerFound Refusal) → tracker.peer-ensures text i f → before text ≡ take q (after out) → peer_paper f ≡ nth_of i (compact n p (sixes (before entries)))))
reply-reads-back n entries r out c q t =
    let b = rewriting.reply-reads-back n (before entries) (before out) (after out) r c q t in
    (b.0, b.1, (b.2.0, b.2.2, λ text a e w. e ∙ ap (map counted) (ap reply_of w ∙ b.2.1), λ text i f e w. e ∙ texts.entry-of (before text) (compact n b.2.0 (sixes (before entries))) (ap reply_of w ∙ b.2.1) i))

-- a reply with only those keys, its peers a string, that is read: written from what was read it is that text again, wherever there is room
pub reply-rewrite : (text : Lent (List ℕ)) (v w : Value) → Encodes (before text) (dict (entry interval v (entry peers w empty)))
    → (a : Result Reply Refusal) → tracker.read-ensures text a → (n p k : ℕ) → reply_paper a ≡ taken (compact n p k)
    → (bs : List ℕ) × (take (length bs) (drop p (before text)) ≡ bs) × (k ≡ length (sixes bs))
    × ((i : ℕ) (f : Result PeerFound Refusal) → tracker.peer-ensures text i f → peer_paper f ≡ nth_of i (compact n p (sixes bs)))
    × ((entries : Lent (List ℕ)) (r : Result ℕ Refusal) (out : Lent (List ℕ)) → replies.write-ensures n entries r out → before entries ≡ bs → left (paper r) (after out) ≡ put_of (before text) 0 (before out))
reply-rewrite text v w e a c n p k d =
    let (l, h, j) = rewriting.compact-of (before text) n p k (sym c ∙ d) in
    let b = rewriting.reply-again (before text) v w e n p l h in (
      b.0,
      b.1,
      j ∙ ap length b.2,
      λ i f g. g ∙ texts.entry-of (before text) (compact n p (sixes b.0)) (h ∙ ap (λ (x : List PeerEntry). taken (compact n p x)) b.2) i,
      λ entries r out g z. g ∙ ap (λ (x : List ℕ). reply_write n x (before out)) z ∙ b.3 (before out),
    )

-- of torrent_authoring::write, and torrent_metainfo::read on what it wrote
pub torrent-reads-back : (announce name : Lent (List ℕ)) (pl : ℕ) (pieces : Lent (List ℕ)) (len : ℕ) (r : Result ℕ Refusal) (out : Lent (List ℕ)) → authoring.write-ensures announce name pl pieces len r out
    → (q : ℕ) → paper r ≡ taken q
    → (take q (after out) ≡ encode (dict (entry announce_key (str (before announce)) (entry info_key (dict (entry length_key (int (pos len)) (entry name_key (str (before name))
    (entry piece_length_key (int (pos pl)) (entry pieces_key (str (before pieces)) empty))))) empty))))
    × (drop q (after out) ≡ drop q (before out))
    × ((text : Lent (List ℕ)) (a : Result Torrent Refusal) → metainfo.read-ensures text a → before text ≡ take q (after out)
    → (x : Torrent) × (paper a ≡ taken x) × (x.content.single ≡ true)
    × (fields (bytes_at (take q (after out)) x.announce) (bytes_at (take q (after out)) x.name) x.piece_length (bytes_at (take q (after out)) x.pieces) x.content.total ≡ asked announce name pl pieces len))
torrent-reads-back announce name pl pieces len r out c q t =
    let b = authored.torrent-reads-back (asked announce name pl pieces len) (before out) r c q t in
    (b.text, b.past, λ text a e w. (b.torrent, e ∙ ap torrent_read w ∙ b.read, b.gives.single, b.gives.same))

-- a torrent with only those keys that is read: written from what was read it is that text again, wherever there is room
pub torrent-rewrite : (text : Lent (List ℕ)) (a l n pl ps : Value)
    → Encodes (before text) (dict (entry announce_key a (entry info_key (dict (entry length_key l (entry name_key n (entry piece_length_key pl (entry pieces_key ps empty))))) empty)))
    → (g : Result Torrent Refusal) → metainfo.read-ensures text g → (x : Torrent) → paper g ≡ taken x
    → (x.content.single ≡ true)
    × ((announce name pieces : Lent (List ℕ)) (r : Result ℕ Refusal) (out : Lent (List ℕ)) → authoring.write-ensures announce name x.piece_length pieces x.content.total r out
    → before announce ≡ bytes_at (before text) x.announce → before name ≡ bytes_at (before text) x.name → before pieces ≡ bytes_at (before text) x.pieces
    → left (paper r) (after out) ≡ put_of (before text) 0 (before out))
torrent-rewrite text a l n pl ps e g c x d =
    let b = again.rewrite (before text) (top_with a (info_with l n pl ps)) (fine e) (only a l n pl ps) x (sym c ∙ d) in (
      b.0,
      λ announce name pieces r out w h i j.
          let k : asked announce name x.piece_length pieces x.content.total
          ≡ fields (bytes_at (before text) x.announce) (bytes_at (before text) x.name) x.piece_length (bytes_at (before text) x.pieces) x.content.total = rw (h, i, j) in
          w ∙ ap (λ (f : Torrents). author_of f (before out)) k ∙ b.2 (before out),
    )

-- ---- 8. "The info hash is SHA-1 (FIPS 180-4) of info's bytes as they stand. A piece check answers yes exactly when the digests agree."

-- of torrent_metainfo::info_hash
pub info-hash : (text : Lent (List ℕ)) (r : Result (Unit {0}) Refusal) (out : Lent (List ℕ)) → metainfo.info_hash-ensures text r out → (v : Value) (t : TorrentSays) → Encodes (before text) v → IsTorrent v t
    → (paper r ≡ taken tt) × (after out ≡ sha1 (encode (dict t.info)))
info-hash text r out c v t e i =
    let h = c ∙ torrents.info-hash (before text) (before out) v t (fine e) i in
    (ap (λ (x : Hashing). x.answer) h, ap (λ (x : Hashing). x.out) h)

-- of torrent_contents::piece_hash: the hash of piece n is the n-th 20 bytes of pieces; beyond the last it is 31
module _ (text : Lent (List ℕ)) (n : PieceNumber) (r : Result Part Refusal) (c : contents.piece_hash-ensures text n r) where
  pub piece-hash : (v : Value) (t : TorrentSays) → Encodes (before text) v → IsTorrent v t
      → (n.0 < t.count → (x : Part) × (paper r ≡ taken x) × (bytes_at (before text) x ≡ take 20 (drop (20 * n.0) t.pieces))) × (t.count ≤ n.0 → paper r ≡ refused 31 0)
  piece-hash v t e i = let h = pieces.piece-hashed (before text) n.0 v t e i in (λ l. let x = h.0 l in (x.0, c ∙ x.1, x.2), λ l. c ∙ h.1 l)

  -- and it is that part of pieces, as torrent_metainfo::read hands it back
  pub piece_hash-place : (g : Result Torrent Refusal) → metainfo.read-ensures text g → (y : Torrent) → paper g ≡ taken y → (x : Part) → paper r ≡ taken x
      → (x.from ≡ y.pieces.from + 20 * n.0) × (x.len ≡ 20)
  piece_hash-place g d y t x e = pieces.hash-placed (before text) n.0 y (sym d ∙ t) x (sym c ∙ e)

-- of torrent_contents::check_piece: yes exactly when the text is a torrent that has piece n, the bytes are as many as that piece has, and their digest is the n-th 20 bytes of pieces;
-- no exactly when all of this holds but the last
module _ (text : Lent (List ℕ)) (n : PieceNumber) (bytes : Lent (List ℕ)) (r : Result Bool Refusal) (c : contents.check_piece-ensures text n bytes r) where
  pub piece-check : paper r ≡ taken true
      ↔ ((v : Value) × (t : TorrentSays) × Encodes (before text) v × IsTorrent v t × IsPiece n.0 (before bytes) t × Agrees n.0 (before bytes) t)
  piece-check = Iff.trans (same_answer c) (pieces.yes-exactly (before text) n.0 (before bytes))

  pub piece-check-no : paper r ≡ taken false
      ↔ ((v : Value) × (t : TorrentSays) × Encodes (before text) v × IsTorrent v t × IsPiece n.0 (before bytes) t × (Agrees n.0 (before bytes) t → ⊥))
  piece-check-no = Iff.trans (same_answer c) (pieces.no-exactly (before text) n.0 (before bytes))

-- ---- 9. "Blocks map to file parts exactly."

-- of torrent_blocks::block: n bytes from offset o of piece p, of files of these lengths one after the other. The parts of a taken block are its bytes, once each and in
-- order; none is empty, each lies within its file, and files ascend. They stand at the output's start as file, offset and length each, and past them it stays
module _ (lengths : Lent (List ℕ)) (pl : ℕ) (p : PieceNumber) (o : PieceOffset) (n : ℕ) (r : Result ℕ Refusal) (out : Lent (List ℕ)) (c : blocks.block-ensures lengths pl p o n r out) where
  pub block-covers : (k : ℕ) → paper r ≡ taken k
      → (ps : List FilePart) × (k ≡ length ps) × (after out ≡ flat ps ++ drop (3 * k) (before out)) × (places_of (joined_files (before lengths)) ps ≡ run (p.0 * pl + o.0) n)
      × Neat (joined_files (before lengths)) 0 ps
  block-covers k t =
      let b = blocks-laws.block-parts (before lengths) pl p.0 o.0 n (before out) (paper r) (after out) c k t in
      let w = whole.block-covers (joined_files (before lengths)) pl (joined-laid (before lengths) pl) p.0 o.0 n b.0 b.1 in
      (b.0, b.2, b.3, w.bytes, w.neat)

  -- and it is taken exactly when the numbers keep the rules for torrents, there is such a piece, the block has 1 to 16,384 bytes and ends within its piece, and
  -- there is room
  pub block-exact : ((k : ℕ) × (paper r ≡ taken k))
      ↔ (Lawful pl (before lengths) (pieces_of (sum (before lengths)) pl) × (p.0 < pieces_of (sum (before lengths)) pl) × (1 ≤ n) × (n ≤ 16384) × (o.0 + n ≤ min pl (sum (before lengths) - p.0 * pl))
      × (3 * length (parts_of (joined_files (before lengths)) (p.0 * pl + o.0) n) ≤ length (before out)))
  block-exact = blocks-laws.block-exact (before lengths) pl p.0 o.0 n (before out) (paper r) (after out) c

-- and no other parts are these bytes, once each and in order, each in its file and not empty
pub parts-unique : (ns : List ℕ) (x n : ℕ) (ps qs : List FilePart) → places_of (joined_files ns) ps ≡ run x n → Neat (joined_files ns) 0 ps → places_of (joined_files ns) qs ≡ run x n → Neat (joined_files ns) 0 qs → ps ≡ qs
parts-unique ns x n ps qs a b c d = covers-unique (joined_files ns) (joined-ordered 0 ns) x n ps qs (record { bytes = a; neat = b }) (record { bytes = c; neat = d })

-- of torrent_blocks::piece_size: taken exactly when the numbers keep the rules and there is such a piece, and it is then the piece length, of the last piece what is left
pub piece_size-exact : (lengths : Lent (List ℕ)) (pl : ℕ) (p : PieceNumber) (r : Result ℕ Refusal) → blocks.piece_size-ensures lengths pl p r → (k : ℕ)
    → paper r ≡ taken k ↔ (Lawful pl (before lengths) (pieces_of (sum (before lengths)) pl) × (p.0 < pieces_of (sum (before lengths)) pl) × (k ≡ min pl (sum (before lengths) - p.0 * pl)))
piece_size-exact lengths pl p r c k = Iff.trans (same_answer c) (blocks-laws.size-taken (before lengths) pl p.0 k, blocks-laws.size-takes (before lengths) pl p.0 k)

-- of torrent_blocks::byte: byte o of file f. Its piece and offset are its place in the joined content, and the block of that one byte is that byte of that file
module _ (lengths : Lent (List ℕ)) (pl f o : ℕ) (r : Result Place Refusal) (c : blocks.byte-ensures lengths pl f o r) where
  pub byte-finds-piece : (x : Spot) → place_paper r ≡ taken x
      → (x.piece * pl + x.offset ≡ sum (take f (before lengths)) + o) × (x.offset < pl) × (block_of (joined_files (before lengths)) pl x 1 ≡ taken (part f o 1 ∷ []))
  byte-finds-piece x e = blocks-laws.byte-found (before lengths) pl f o x (sym c ∙ e)

  -- and every byte of every file has one
  pub byte-exact : ((x : Spot) × (place_paper r ≡ taken x)) ↔ (Lawful pl (before lengths) (pieces_of (sum (before lengths)) pl) × (f < length (before lengths)) × (o < get_or (before lengths) f 0))
  byte-exact = Iff.trans (some-answer c) (λ (x, e). blocks-laws.byte-taken (before lengths) pl f o x e, blocks-laws.byte-takes (before lengths) pl f o)
