-- Document 01's listing: the bytes printed for a text, from the value that the text is. Assumes nothing: these are definitions.
use Rattle.std.specs.Prelude.{Bool, cond, ◌&&◌, not, List, [], ◌∷◌, ◌++◌, map, ℕ, ◌+◌, ltb, leb, eqb, pos, negsuc, length}
use Rattle.refusal.specs.Texts.{bytes}
use Rattle.refusal.specs.Paper.{Outcome, taken, refused}
use Rattle.refusal.specs.Numbers.{long}
use Rattle.bencode_scalar.specs.Written.{decimal}
use Rattle.bencode_writer.specs.Escaped.{escaped_by}
use Rattle.bencode.specs.Value.{Value, Items, str, int, list, dict, none, item}
use Rattle.bencode.specs.Decode.{decode}
use Rattle.bencode_walk.specs.Lookup.{Under, nothing, under, lookup}
use Rattle.torrent_blocks.specs.Rules.{pieces_of, sum}
use Rattle.torrent_metainfo.specs.Keys.{info_key, files_key, length_key, name_key, path_key, piece_length_key}
use Rattle.torrent_metainfo.specs.Rules.{torrent_of}
use Rattle.torrent_metainfo.specs.declared.Torrent.{Torrent}

-- ---- what a decoded torrent holds

-- a string's bytes, a number, a list's items, the value under a dictionary's key; of another kind, nothing
abbrev pub bytes_in : Value → List ℕ
bytes_in (str bs) = bs
bytes_in (int z) = []
bytes_in (list vs) = []
bytes_in (dict es) = []

abbrev pub number_in : Value → ℕ
number_in (str bs) = 0
number_in (int (pos n)) = n
number_in (int (negsuc n)) = 0
number_in (list vs) = 0
number_in (dict es) = 0

abbrev pub items_in : Value → Items
items_in (str bs) = none
items_in (int z) = none
items_in (list vs) = vs
items_in (dict es) = none

abbrev pub found : Under → Value
found nothing = str []
found (under p v) = v

abbrev pub within : List ℕ → Value → Value
within k (str bs) = str []
within k (int z) = str []
within k (list vs) = str []
within k (dict es) = found (lookup 0 es k)

-- a file: its length, and the elements of its path
pub record Listed : Type 0 where
  pub length : ℕ
  pub path : List (List ℕ)

unfoldable pub elements_in : Items → List (List ℕ)
elements_in none = []
elements_in (item v vs) = bytes_in v ∷ elements_in vs

abbrev pub file_in : Value → Listed
file_in v = record { length = number_in (within length_key v); path = elements_in (items_in (within path_key v)) }

unfoldable pub files_in : Items → List Listed
files_in none = []
files_in (item v vs) = file_in v ∷ files_in vs

-- the one file, whose path is its name
abbrev pub only_file : Value → List Listed
only_file info = record { length = number_in (within length_key info); path = bytes_in (within name_key info) ∷ [] } ∷ []

-- the files of info, by what is under files
abbrev pub files_by : Value → Value → List Listed
files_by info (str bs) = only_file info
files_by info (int z) = only_file info
files_by info (list vs) = files_in vs
files_by info (dict es) = only_file info

abbrev pub files_of : Value → List Listed
files_of info = files_by info (within files_key info)

abbrev pub lengths_in : List Listed → List ℕ
lengths_in fs = map (λ (f : Listed). f.length) fs

-- ---- what is printed of it

-- which bytes print as they are: 33 to 126, but not "%"
abbrev pub plain : ℕ → Bool
plain b = leb 33 b && (leb b 126 && not (eqb b 37))

-- the others print as % and two hex digits
abbrev pub escaped : List ℕ → List ℕ
escaped bs = escaped_by plain bs

-- with "/" between each two
unfoldable pub slashed : List (List ℕ) → List ℕ
slashed [] = []
slashed (x ∷ []) = x
slashed (x ∷ y ∷ t) = x ++ (bytes "/" ++ slashed (y ∷ t))

-- offset, length and path of a file, and a line feed
abbrev pub file_line : ℕ → Listed → List ℕ
file_line o f = decimal o ++ (bytes " " ++ (decimal f.length ++ (bytes " " ++ (slashed (map escaped f.path) ++ bytes "\n"))))

-- one line a file: each begins where those before it end
unfoldable pub file_lines : ℕ → List Listed → List ℕ
file_lines o [] = []
file_lines o (f ∷ fs) = file_line o f ++ file_lines (o + f.length) fs

-- how many files, bytes and pieces there are, and how long a piece is
pub record Totals : Type 0 where
  pub files : ℕ
  pub total : ℕ
  pub pieces : ℕ
  pub size : ℕ

abbrev pub first_line : List ℕ → Totals → List ℕ
first_line name t =
    escaped name ++ (bytes " " ++ (decimal t.files ++ (bytes " files " ++ (decimal t.total ++ (bytes " bytes "
    ++ (decimal t.pieces ++ (bytes " pieces of " ++ (decimal t.size ++ bytes "\n"))))))))

-- the totals of files in pieces of a size
abbrev pub totals_of : ℕ → List Listed → Totals
totals_of size fs = record { files = length fs; total = sum (lengths_in fs); pieces = pieces_of (sum (lengths_in fs)) size; size = size }

abbrev pub lines_by : List ℕ → ℕ → List Listed → List ℕ
lines_by name size fs = first_line name (totals_of size fs) ++ file_lines 0 fs

abbrev pub lines_of : Value → List ℕ
lines_of info = lines_by (bytes_in (within name_key info)) (number_in (within piece_length_key info)) (files_of info)

abbrev pub refused_line : ℕ → ℕ → List ℕ
refused_line number place = bytes "refused " ++ (decimal number ++ (bytes " at " ++ (decimal place ++ bytes "\n")))

-- ---- the listing

-- the most bytes that a listing has: six for each byte of a text, since the name of a single file is printed twice
abbrev pub most_printed : ℕ
most_printed = 393216

-- the most bytes of a text that is listed
abbrev pub most_listed : ℕ
most_listed = 65536

-- of a value, which is a torrent or is refused as one; of a text, which is a value or is refused as one
abbrev pub torrent_lines : Value → Outcome Torrent → List ℕ
torrent_lines v (taken t) = lines_of (within info_key v)
torrent_lines v (refused n p) = refused_line n p

abbrev pub value_lines : Outcome Value → List ℕ
value_lines (taken v) = torrent_lines v (torrent_of v)
value_lines (refused n p) = refused_line n p

unfoldable pub listing_of : List ℕ → List ℕ
listing_of s = let all : List ℕ = value_lines (decode s) in cond (ltb most_listed (length s)) (refused_line long 0) all
