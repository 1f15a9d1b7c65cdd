-- What the calls answer for a text, in document 01's words. Assumes nothing: these are definitions.
use Rattle.std.specs.Prelude.{List, ℕ, ◌+◌, min, false, length, drop}
use Rattle.torrent_blocks.specs.Rules.{sum, largest}
use Rattle.refusal.specs.Paper.{Outcome, taken, refused, map, then}
use Rattle.refusal.specs.Limits.{most_levels}
use Rattle.refusal.specs.declared.Part.{Part}
use Rattle.bencode_scalar.specs.Reading.{Got, got, bad}
use Rattle.bencode.specs.Value.{Value, encode}
use Rattle.bencode.specs.Decode.{value_from, unless_long, decode}
use Rattle.bencode_fields.specs.Values.{list_at_of}
use Rattle.torrent_metainfo.specs.Rules.{file_of, lengths_of, torrent_of}
use Rattle.torrent_metainfo.specs.declared.File.{File}
use Rattle.torrent_metainfo.specs.declared.Content.{Content}
use Rattle.torrent_metainfo.specs.declared.Torrent.{Torrent}

-- files with the place past their list, and a path with the place past it
abbrev pub listed_to : ℕ → Content → Content × ℕ
listed_to q c = (c, q)

-- the torrent that a text is
abbrev pub read_of : List ℕ → Outcome Torrent
read_of s = then (decode s) torrent_of

-- the value that begins at p of any text
abbrev pub value_in_of : Got Value → Outcome Value
value_in_of (got v l q n) = taken v
value_in_of (bad r p) = refused r p

unfoldable pub value_at : List ℕ → ℕ → Outcome Value
value_at s p = unless_long s (value_in_of (value_from most_levels (length s) (drop p s) p 0))

-- the file that stands at p of any text
abbrev pub file_at : List ℕ → ℕ → Outcome File
file_at s p = then (value_at s p) (file_of p)

-- the content as a running total has it, after k files of t bytes in a list at p
abbrev pub running : ℕ → ℕ → ℕ → List ℕ → Content
running p k t ns = record { single = false; place = p; files = k + length ns; total = min (t + sum ns) largest }

-- the files that v, which stands at p, lists, and the place past it
abbrev pub files_at : ℕ → Value → Outcome (Content × ℕ)
files_at p v = then (list_at_of p v) (λ vs. map (λ ns. listed_to (p + length (encode v)) (running p 0 0 ns)) (lengths_of (p + 1) vs))

-- a running total stops at the largest number of 64 bits
abbrev pub stopped : Content → Content
stopped c = record { single = c.single; place = c.place; files = c.files; total = min c.total largest }

-- where announce and the name stand; of a text that is refused, the empty part at its start
abbrev pub announce_in : Outcome Torrent → Part
announce_in (taken t) = t.announce
announce_in (refused n p) = record { from = 0; len = 0 }

abbrev pub name_in_of : Outcome Torrent → Part
name_in_of (taken t) = t.name
name_in_of (refused n p) = record { from = 0; len = 0 }
