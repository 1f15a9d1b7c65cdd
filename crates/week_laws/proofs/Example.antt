-- Document 01's torrent and another in one file, with the info hashes that sha1sum says: the definitions by computation. Assumes nothing.
use mathlib.Core.Path.{◌≡◌, refl}
use mathlib.Core.List.{List, [], ◌∷◌, ◌++◌}
use Prim.Native.Nat.{ℕ}
use lib.ListN.{take}
use Rattle.refusal.specs.BigEndian.{big_endian_of, bytes_of}
use Rattle.refusal.specs.Texts.{bytes}
use Rattle.refusal.specs.Paper.{taken, refused}
use Rattle.bencode_scalar.specs.Written.{decimal_in, key_lt}
use Rattle.bencode_scalar.specs.Reading.{digits_val, digits_len, string_of, closed_of, integer_of}
use Rattle.bencode.specs.Value.{encode}
use Rattle.bencode.specs.Decode.{decode, kind_of, key_of, items_of, entries_of as keyed_of, value_from}
use Rattle.bencode_walk.specs.Lookup.{lookup, same_key}
use Rattle.hash_digest.specs.Message.{padding, folded}
use Rattle.hash_sha1.specs.Sha1.{sha1, compress, schedule, rounds}
use Rattle.hash_sha1.specs.Digest.{same}
use Rattle.torrent_blocks.specs.Rules.{power_from, sum}
use Rattle.torrent_metainfo.specs.Rules.{clean, good_name, elements_of, file_of as one_file_of, lengths_of, info_of, top_of, torrent_of, sized_of}
use Rattle.torrent_laws.specs.Example.{text}
use Rattle.week.specs.File.{entries_from, bodies_of, file_of}
use Rattle.week.specs.Rules.{field_at, count_of, runs_at, among, entry_of, entries_of, table_of, body_of, placed_of, within_of, package_at, sums_from, week_of, package_of}
use Rattle.week.specs.Writing.{cut_by, package_in, packages_from, written_of}

-- the other torrent, of one file of 5 bytes
abbrev other : List ℕ
other = bytes "d8:announce8:http://y4:infod6:lengthi5e4:name1:a12:piece lengthi16384e6:pieces20:AAAAAAAAAAAAAAAAAAAAee"

abbrev hash : List ℕ
hash = 0xb7 ∷ 0x2a ∷ 0xc4 ∷ 0x24 ∷ 0x1c ∷ 0xbe ∷ 0x94 ∷ 0xd0 ∷ 0xd7 ∷ 0x5e ∷ 0x70 ∷ 0x2b ∷ 0x3c ∷ 0x5f ∷ 0x2f ∷ 0x13 ∷ 0x7b ∷ 0x1b ∷ 0x4d ∷ 0x47 ∷ []

abbrev other_hash : List ℕ
other_hash = 0x0a ∷ 0x9e ∷ 0x3e ∷ 0x27 ∷ 0x3a ∷ 0x9c ∷ 0x62 ∷ 0x62 ∷ 0x6a ∷ 0x57 ∷ 0xc6 ∷ 0x3b ∷ 0xe1 ∷ 0x87 ∷ 0x22 ∷ 0x20 ∷ 0x44 ∷ 0x58 ∷ 0x9d ∷ 0x3b ∷ []

-- a file of two packages, its table's fields by number: 236 bytes at 60, and 103 bytes at 296
abbrev fields : List ℕ → List ℕ → List ℕ → List ℕ → List ℕ → List ℕ → List ℕ
fields o₁ n₁ h₁ o₂ n₂ h₂ = 0 ∷ 0 ∷ 0 ∷ 2 ∷ (o₁ ++ (n₁ ++ (h₁ ++ (o₂ ++ (n₂ ++ h₂)))))

abbrev at60 : List ℕ
at60 = 0 ∷ 0 ∷ 0 ∷ 60 ∷ []

abbrev of236 : List ℕ
of236 = 0 ∷ 0 ∷ 0 ∷ 236 ∷ []

abbrev at296 : List ℕ
at296 = 0 ∷ 0 ∷ 1 ∷ 40 ∷ []

abbrev of103 : List ℕ
of103 = 0 ∷ 0 ∷ 0 ∷ 103 ∷ []

abbrev bodies : List ℕ
bodies = text ++ other

abbrev file : List ℕ
file = fields at60 of236 hash at296 of103 other_hash ++ bodies

-- the file is that of the two packages
is-file : file_of (record { body = text; hash = hash } ∷ record { body = other; hash = other_hash } ∷ []) ≡ file
unfolding text file_of entries_from bodies_of bytes_of
is-file = refl

-- taken, with 4 files and 32,774 bytes; a gap before the second body; a length past the file's end; a hash given before; a byte after the last body; the second body
-- without its last byte, which is its own refusal; another hash; cut after the first length
answers : week_of file ∷ week_of (fields at60 of236 hash at60 of103 other_hash ++ bodies) ∷ week_of (fields at60 of236 hash at296 of236 other_hash ++ bodies)
    ∷ week_of (fields at60 of236 hash at296 of103 hash ++ bodies) ∷ week_of (file ++ (0 ∷ [])) ∷ week_of (fields at60 of236 hash at296 (0 ∷ 0 ∷ 0 ∷ 102 ∷ []) other_hash ++ take 338 bodies)
    ∷ week_of (fields at60 of236 hash at296 of103 (1 ∷ take 19 other_hash) ++ bodies) ∷ week_of (take 40 file)
    ∷ []
    ≡ taken (record { count = 2; files = 4; total = 32774 }) ∷ refused 18 32 ∷ refused 18 36
    ∷ refused 18 40 ∷ refused 18 399 ∷ refused 1 398
    ∷ refused 18 40 ∷ refused 18 8
    ∷ []
unfolding text field_at count_of runs_at among same entry_of entries_of table_of body_of placed_of within_of package_at sums_from week_of lookup same_key decode value_from items_of keyed_of kind_of key_of string_of closed_of integer_of digits_val digits_len key_lt encode decimal_in clean good_name elements_of one_file_of lengths_of info_of top_of torrent_of sized_of power_from sum sha1 padding folded compress schedule rounds big_endian_of bytes_of
answers = refl

-- a package of it, and none past the last; the file as it is written of its bodies, and two refusals
told : package_of file 1 ∷ package_of file 2 ∷ [] ≡ taken (record { hash = record { from = 40; len = 20 }; body = record { from = 296; len = 103 }; files = 1; total = 5 }) ∷ refused 31 0 ∷ []
unfolding text field_at count_of runs_at among same entry_of entries_of table_of body_of placed_of within_of package_at sums_from week_of package_of lookup same_key decode value_from items_of keyed_of kind_of key_of string_of closed_of integer_of digits_val digits_len key_lt encode decimal_in clean good_name elements_of one_file_of lengths_of info_of top_of torrent_of sized_of power_from sum sha1 padding folded compress schedule rounds big_endian_of bytes_of
told = refl

written : written_of bodies (236 ∷ 103 ∷ []) ∷ written_of bodies (236 ∷ 104 ∷ []) ∷ written_of (text ++ text) (236 ∷ 236 ∷ []) ∷ [] ≡ taken file ∷ refused 18 0 ∷ refused 18 0 ∷ []
unfolding text among same cut_by package_in packages_from written_of file_of entries_from bodies_of lookup same_key decode value_from items_of keyed_of kind_of key_of string_of closed_of integer_of digits_val digits_len key_lt encode decimal_in clean good_name elements_of one_file_of lengths_of info_of top_of torrent_of sized_of power_from sum sha1 padding folded compress schedule rounds big_endian_of bytes_of
written = refl
