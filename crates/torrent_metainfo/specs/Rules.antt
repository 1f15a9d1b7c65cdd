-- Document 01's checks of a torrent, on the decoded value: in their order, each with its number and its place. Places are computed
-- from the encoding: p is the place of the value that is looked at. Assumes nothing: these are definitions.
use Rattle.std.specs.Prelude.{Bool, true, false, cond, List, [], ◌∷◌, ℕ, ◌+◌, ◌*◌, eqb, length}
use Rattle.refusal.specs.Paper.{Outcome, taken, refused, map, then}
use Rattle.refusal.specs.Numbers.{kind, range, name, pieces}
use Rattle.refusal.specs.Limits.{longest_file, longest_piece}
use Rattle.refusal.specs.declared.Part.{Part}
use Rattle.bencode.specs.Value.{Value, Items, Entries, str, int, list, dict, none, item, encode}
use Rattle.bencode_walk.specs.Lookup.{Under, nothing, under, lookup}
use Rattle.bencode_fields.specs.Values.{part_of, string_at, natural_at, list_at_of, dictionary_at, must}
use Rattle.torrent_blocks.specs.Rules.{piece_length_of, file_count, pieces_of, total_and, sum}
use Rattle.torrent_metainfo.specs.Keys.{announce_key, info_key, files_key, length_key, name_key, path_key, piece_length_key, pieces_key}
use Rattle.torrent_metainfo.specs.declared.File.{File}
use Rattle.torrent_metainfo.specs.declared.Content.{Content}
use Rattle.torrent_metainfo.specs.declared.Torrent.{Torrent}

-- a check of a fact, and then another
abbrev pub provided : {A : Type 0} → Bool → ℕ → ℕ → Outcome A → Outcome A
provided b n p o = cond b o (refused n p)

-- empty, "." or ".."
abbrev pub dots : List ℕ → Bool
dots [] = true
dots (b ∷ []) = eqb b 46
dots (b ∷ c ∷ []) = cond (eqb b 46) (eqb c 46) false
dots (b ∷ c ∷ d ∷ t) = false

-- no "/" and no zero byte
unfoldable pub clean : List ℕ → Bool
clean [] = true
clean (b ∷ t) = let r : Bool = clean t in cond (eqb b 47) false (cond (eqb b 0) false r)

-- what may be a name or an element of a path
unfoldable pub good_name : List ℕ → Bool
good_name bs = cond (dots bs) false (clean bs)

-- a name, or an element of a path
abbrev pub name_at : ℕ → Value → Outcome Part
name_at p (str bs) = provided (good_name bs) name p (taken (part_of p bs))
name_at p (int z) = refused kind p
name_at p (list vs) = refused kind p
name_at p (dict es) = refused kind p

-- the elements of a path, of which the first stands at p; the place past them
unfoldable pub elements_of : ℕ → Items → Outcome ℕ
elements_of p none = taken p
elements_of p (item v vs) = then (name_at p v) (λ x. elements_of (p + length (encode v)) vs)

-- a path: the place of its first element
abbrev pub path_in : ℕ → Items → Outcome ℕ
path_in p none = refused name p
path_in p (item v vs) = map (λ q. p + 1) (elements_of (p + 1) (item v vs))

abbrev pub path_at : ℕ → Value → Outcome ℕ
path_at p v = then (list_at_of p v) (path_in p)

-- a file, from the entries of its dictionary; q is the place past it
abbrev pub file_in : ℕ → ℕ → Entries → Outcome File
file_in p q es =
    then (must p (lookup (p + 1) es length_key) (natural_at longest_file)) (λ n.
    then (must p (lookup (p + 1) es path_key) path_at) (λ a.
    taken (record { length = n; path = a; next = q })))

unfoldable pub file_of : ℕ → Value → Outcome File
file_of p v = then (dictionary_at p v) (file_in p (p + length (encode v)))

-- the lengths of the files, of which the first stands at p
unfoldable pub lengths_of : ℕ → Items → Outcome (List ℕ)
lengths_of p none = taken []
lengths_of p (item v vs) = then (file_of p v) (λ f. map (λ ns. f.length ∷ ns) (lengths_of f.next vs))

-- the content: one file whose length stands at p, or files of these lengths in a list at p
abbrev pub one_file : ℕ → ℕ → Content
one_file p n = record { single = true; place = p; files = 1; total = n }

abbrev pub many_files : ℕ → List ℕ → Content
many_files p ns = record { single = false; place = p; files = length ns; total = sum ns }

-- exactly one of length and files
abbrev pub content_of : ℕ → Under → Under → Outcome Content
content_of info (under p v) nothing = map (one_file p) (natural_at longest_file p v)
content_of info nothing (under p v) = then (list_at_of p v) (λ vs. map (many_files p) (lengths_of (p + 1) vs))
content_of info nothing nothing = refused kind info
content_of info (under p v) (under q w) = refused kind info

abbrev pub piece_length_at : ℕ → Value → Outcome ℕ
piece_length_at p v = then (natural_at longest_piece p v) (λ n. provided (piece_length_of n) range p (taken n))

-- the place of what is under a key
abbrev pub place_under : Under → ℕ
place_under nothing = 0
place_under (under p v) = p

-- how many files, the total, how many pieces; then the length of pieces, which stands at p
unfoldable pub sized_of : Part → Part → Part → Part → ℕ → ℕ → Content → Outcome Torrent
sized_of a i n s p pl c =
    provided (file_count c.files) range c.place
    (provided (total_and c.total (pieces_of c.total pl)) range c.place
    (provided (eqb s.len (20 * pieces_of c.total pl)) pieces p
    (taken (record { announce = a; info = i; name = n; pieces = s; piece_length = pl; piece_count = pieces_of c.total pl; content = c }))))

-- info, whose dictionary stands at p with its entries es
unfoldable pub info_of : Part → ℕ → Entries → Outcome Torrent
info_of a p es =
    then (must p (lookup (p + 1) es name_key) name_at) (λ n.
    then (must p (lookup (p + 1) es piece_length_key) piece_length_at) (λ pl.
    then (must p (lookup (p + 1) es pieces_key) string_at) (λ s.
    then (content_of p (lookup (p + 1) es length_key) (lookup (p + 1) es files_key)) (λ c.
    sized_of a (record { from = p; len = length (encode (dict es)) }) n s (place_under (lookup (p + 1) es pieces_key)) pl c))))

abbrev pub info_at : Part → ℕ → Value → Outcome Torrent
info_at a p v = then (dictionary_at p v) (info_of a p)

-- the whole, by its entries
unfoldable pub top_of : Entries → Outcome Torrent
top_of es =
    then (must 0 (lookup 1 es announce_key) string_at) (λ a.
    must 0 (lookup 1 es info_key) (info_at a))

unfoldable pub torrent_of : Value → Outcome Torrent
torrent_of v = then (dictionary_at 0 v) top_of
