-- Document 01's torrent with sheets that have and have not its info hash, which sha1sum says is b72ac424..: the definitions by computation. Assumes nothing.
use mathlib.Core.Path.{◌≡◌, refl}
use mathlib.Core.List.{List, [], ◌∷◌, ◌++◌}
use Prim.Native.Nat.{ℕ}
use lib.ListN.{replicate}
use Rattle.refusal.specs.BigEndian.{big_endian_of, bytes_of}
use Rattle.refusal.specs.Texts.{bytes}
use Rattle.refusal.specs.Paper.{taken, refused}
use Rattle.bencode_scalar.specs.Written.{decimal_in, key_lt}
use Rattle.bencode_scalar.specs.Reading.{digits_val, digits_len, string_of, closed_of, integer_of}
use Rattle.bencode.specs.Value.{str, dict, empty, entry, encode}
use Rattle.bencode.specs.Decode.{decode, kind_of, key_of, items_of, entries_of, value_from}
use Rattle.bencode_walk.specs.Lookup.{lookup, same_key}
use Rattle.hash_digest.specs.Message.{padding, folded}
use Rattle.hash_sha1.specs.Sha1.{sha1, compress, schedule, rounds}
use Rattle.torrent_blocks.specs.Rules.{power_from, sum}
use Rattle.torrent_metainfo.specs.Rules.{clean, good_name, elements_of, file_of, lengths_of, info_of, top_of, torrent_of, sized_of}
use Rattle.torrent_laws.specs.Torrent.{string_items}
use Rattle.torrent_laws.specs.Example.{text, value}
use Rattle.sheets.specs.declared.Source.TheVariants.{Torrent, Sheet}
use Rattle.sheets.specs.Sheet.{held_or, address_of}
use Rattle.sheets.specs.Rules.{rows_of}
use Rattle.sheets.specs.Reading.{of, find_of}

-- the info hash, and one that differs in its last byte
abbrev hash : List ℕ
hash = 0xb7 ∷ 0x2a ∷ 0xc4 ∷ 0x24 ∷ 0x1c ∷ 0xbe ∷ 0x94 ∷ 0xd0 ∷ 0xd7 ∷ 0x5e ∷ 0x70 ∷ 0x2b ∷ 0x3c ∷ 0x5f ∷ 0x2f ∷ 0x13 ∷ 0x7b ∷ 0x1b ∷ 0x4d ∷ 0x47 ∷ []

abbrev next : List ℕ
next = 0xb7 ∷ 0x2a ∷ 0xc4 ∷ 0x24 ∷ 0x1c ∷ 0xbe ∷ 0x94 ∷ 0xd0 ∷ 0xd7 ∷ 0x5e ∷ 0x70 ∷ 0x2b ∷ 0x3c ∷ 0x5f ∷ 0x2f ∷ 0x13 ∷ 0x7b ∷ 0x1b ∷ 0x4d ∷ 0x48 ∷ []

-- by the values: the sheet's, or announce
listed-value : address_of value (dict (entry hash (str (bytes "http://depot")) empty)) ≡ str (bytes "http://depot")
unfolding held_or string_items encode decimal_in sha1 padding folded compress schedule rounds big_endian_of bytes_of same_key
listed-value = refl

unlisted-value : address_of value (dict (entry next (str (bytes "http://depot")) empty)) ≡ str (bytes "http://yard/ann")
unfolding held_or string_items encode decimal_in sha1 padding folded compress schedule rounds big_endian_of bytes_of same_key
unlisted-value = refl

-- by the texts: a row as it is written, and a sheet of these
abbrev row : List ℕ → List ℕ
row k = bytes "20:" ++ (k ++ bytes "12:http://depot")

abbrev sheet : List ℕ → List ℕ
sheet rows = bytes "d" ++ (rows ++ bytes "e")

-- in the sheet, alone and before another; in the torrent; a key of 19 bytes, an address that is a list, after the hash's row; no dictionary; bytes after it
answers : find_of text (sheet (row hash)) ∷ find_of text (sheet (row hash ++ row next)) ∷ find_of text (sheet (row next)) ∷ find_of text (bytes "de")
    ∷ find_of text (sheet (row hash ++ (bytes "19:" ++ (replicate 19 255 ++ bytes "0:")))) ∷ find_of text (sheet (row hash ++ (bytes "20:" ++ (replicate 20 255 ++ bytes "le")))) ∷ find_of text (bytes "le") ∷ find_of text (sheet (row hash) ++ bytes "e")
    ∷ []
    ≡ of Sheet (taken (record { from = 27; len = 12 })) ∷ of Sheet (taken (record { from = 27; len = 12 })) ∷ of Torrent (taken (record { from = 14; len = 15 })) ∷ of Torrent (taken (record { from = 14; len = 15 }))
    ∷ of Sheet (refused 15 39) ∷ of Sheet (refused 10 62) ∷ of Sheet (refused 10 0) ∷ of Sheet (refused 7 40)
    ∷ []
unfolding text find_of rows_of lookup same_key decode value_from items_of entries_of kind_of key_of string_of closed_of integer_of digits_val digits_len key_lt encode decimal_in clean good_name elements_of file_of lengths_of info_of top_of torrent_of sized_of power_from sum sha1 padding folded compress schedule rounds big_endian_of bytes_of
answers = refl
