-- Document 01's torrent for the listing program: its text, the value that it encodes, and what it says. Assumes nothing: these are definitions.
use Rattle.std.specs.Prelude.{List, [], ◌∷◌, ℕ, pos, replicate}
use Rattle.refusal.specs.Texts.{bytes}
use Rattle.bencode.specs.Value.{Value, Items, Entries, str, int, list, dict, none, item, empty, entry}
use Rattle.torrent_metainfo.specs.Keys.{announce_key, info_key, files_key, length_key, name_key, path_key, piece_length_key, pieces_key}
use Rattle.torrent_laws.specs.Torrent.{OneFile, many, TorrentSays, string_items}

unfoldable pub text : List ℕ
text =
    bytes "d8:announce15:http://yard/ann4:infod5:filesld6:lengthi20000e4:pathl3:rte1:aeed6:lengthi0e4:pathl1:beed6:lengthi12769e4:pathl1:ceee4:name3:pkg12:piece lengthi16384e6:pieces60:AAAAAAAAAAAAAAAAAAAAAAAAAAAAAAAAAAAAAAAAAAAAAAAAAAAAAAAAAAAAee"

abbrev pub url : List ℕ
url = bytes "http://yard/ann"

abbrev pub pkg : List ℕ
pkg = bytes "pkg"

-- 60 letters A
abbrev pub letters : List ℕ
letters = replicate 60 65

-- 20,000 bytes at rte/a, none at b, 12,769 at c
abbrev pub file_a : OneFile
file_a = record { size = 20000; path = bytes "rte" ∷ bytes "a" ∷ [] }

abbrev pub file_b : OneFile
file_b = record { size = 0; path = bytes "b" ∷ [] }

abbrev pub file_c : OneFile
file_c = record { size = 12769; path = bytes "c" ∷ [] }

-- a file's dictionary
abbrev pub file_entries : OneFile → Entries
file_entries f = entry length_key (int (pos f.size)) (entry path_key (list (string_items f.path)) empty)

abbrev pub files : Items
files = item (dict (file_entries file_a)) (item (dict (file_entries file_b)) (item (dict (file_entries file_c)) none))

abbrev pub info : Entries
info = entry files_key (list files) (entry name_key (str pkg) (entry piece_length_key (int (pos 16384)) (entry pieces_key (str letters) empty)))

abbrev pub value : Value
value = dict (entry announce_key (str url) (entry info_key (dict info) empty))

-- 32,769 bytes in three pieces
abbrev pub says : TorrentSays
says = record { announce = url; info = info; name = pkg; piece-length = 16384; pieces = letters; count = 3; files = many (file_a ∷ file_b ∷ file_c ∷ []) }
