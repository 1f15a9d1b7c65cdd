-- The files of a torrent by number, on the decoded value. Assumes nothing: these are definitions.
use Rattle.std.specs.Prelude.{true, false, cond, List, [], ◌∷◌, ℕ, ◌+◌}
use Rattle.refusal.specs.Paper.{Outcome, taken, map, then}
use Rattle.bencode.specs.Value.{Value, Items, str, int, list, dict, none, item}
use Rattle.bencode.specs.Decode.{decode}
use Rattle.bencode_walk.specs.Lookup.{Under, nothing, under, lookup}
use Rattle.bencode_fields.specs.Values.{list_at_of}
use Rattle.bencode_fields.specs.Nth.{nth}
use Rattle.torrent_metainfo.specs.Keys.{info_key, files_key}
use Rattle.torrent_metainfo.specs.Rules.{file_of, torrent_of}
use Rattle.torrent_metainfo.specs.declared.File.{File}
use Rattle.torrent_metainfo.specs.declared.Torrent.{Torrent}
use Rattle.torrent_contents.specs.declared.Entry.{Entry}

-- what is under a key of the value at p, where it is a dictionary
abbrev pub inside : ℕ → Value → List ℕ → Under
inside p (str bs) k = nothing
inside p (int z) k = nothing
inside p (list vs) k = nothing
inside p (dict es) k = lookup (p + 1) es k

abbrev pub into : Under → List ℕ → Under
into nothing k = nothing
into (under p v) k = inside p v k

-- what is under a key of info, of a torrent's value
abbrev pub in_info : Value → List ℕ → Under
in_info v k = into (inside 0 v info_key) k

-- a file that starts at o of the content
abbrev pub entry : ℕ → File → Entry
entry o f = record { offset = record { 0 = o }; length = f.length; path = f.path; single = false }

-- a single file: its path is the name
abbrev pub single : Torrent → Entry
single t = record { offset = record { 0 = 0 }; length = t.content.total; path = t.name.from; single = true }

-- files one after the other, of which the first stands at p and starts at o of the content
unfoldable pub entries_from : ℕ → ℕ → Items → Outcome (List Entry)
entries_from p o none = taken []
entries_from p o (item v vs) = then (file_of p v) (λ f. map (λ es. entry o f ∷ es) (entries_from f.next (o + f.length) vs))

abbrev pub entries_under : Under → Outcome (List Entry)
entries_under nothing = taken []
entries_under (under p v) = then (list_at_of p v) (entries_from (p + 1) 0)

-- all files of the torrent t, which the value v is
abbrev pub all_entries : Value → Torrent → Outcome (List Entry)
all_entries v t = cond t.content.single (taken (single t ∷ [])) (entries_under (in_info v files_key))

-- number n of them
abbrev pub entry_in : ℕ → Value → Outcome Entry
entry_in n v = then (torrent_of v) (λ t. then (all_entries v t) (nth n))

-- file number n of the torrent that a text is: the torrent's refusals, then 31
abbrev pub entry_of : List ℕ → ℕ → Outcome Entry
entry_of s n = then (decode s) (entry_in n)
