-- The keys that torrents have, and what a search for one tells. Assumes nothing: these are definitions.
-- From `Tells` on they serve inner contracts alone and need not be believed: `tells-needed` and `tells-place` of torrent_metainfo/proofs/Telling.antt tie them to Rules.antt.
use Rattle.refusal.specs.declared.Refusal.{Refusal}
use Rattle.torrent_metainfo.specs.declared.Content.{Content}
use Rattle.std.specs.Prelude.{◌≡◌, List, ℕ, ◌≤◌, length, Err, Ok, Result}
use Rattle.refusal.specs.Limits.{most_text}
use Rattle.refusal.specs.Texts.{bytes}
use Rattle.bencode_walk.specs.Stands.{Stands}
use Rattle.bencode_walk.specs.Lookup.{Under, nothing, under}
use Rattle.bencode_walk.specs.declared.Sought.{Sought}
use Rattle.bencode_walk.specs.declared.Sought.TheVariants.{Found, Missing}

abbrev pub announce_key : List ℕ
announce_key = bytes "announce"

abbrev pub info_key : List ℕ
info_key = bytes "info"

abbrev pub files_key : List ℕ
files_key = bytes "files"

abbrev pub length_key : List ℕ
length_key = bytes "length"

abbrev pub name_key : List ℕ
name_key = bytes "name"

abbrev pub path_key : List ℕ
path_key = bytes "path"

abbrev pub piece_length_key : List ℕ
piece_length_key = bytes "piece length"

abbrev pub pieces_key : List ℕ
pieces_key = bytes "pieces"

-- a search tells of what is under its key: the place where the value stands, or that there is none in a text that is not too long
abbrev pub Tells : List ℕ → ℕ → Under → Result Sought Refusal → Type 0
Tells s d (under q v) (Ok (Found p r)) = (r ≡ q) × Stands s d q v
Tells s d (under q v) (Ok (Missing p)) = ⊥
Tells s d (under q v) (Err r) = ⊥
Tells s d nothing (Ok (Found p r)) = ⊥
Tells s d nothing (Ok (Missing p)) = length s ≤ most_text
Tells s d nothing (Err r) = ⊥

-- where a search stopped: a later key is sought from there on
abbrev pub stop_of : Result Sought Refusal → ℕ
stop_of (Ok (Found p q)) = p
stop_of (Ok (Missing p)) = p
stop_of (Err r) = r.place

-- the place of the value that was found
abbrev pub place_found : Result Sought Refusal → ℕ
place_found (Ok (Found p q)) = q
place_found (Ok (Missing p)) = 0
place_found (Err r) = 0

-- where the key after files is sought: past their list, if it was read
abbrev pub past_of : Result Sought Refusal → Result (Content × ℕ) Refusal → ℕ
past_of w (Ok (c, q)) = q
past_of w (Err r) = stop_of w
