-- What a sheet is, and the address that it gives a torrent: on decoded values, without places and without an order of checks. Assumes nothing: these are definitions.
use Rattle.std.specs.Prelude.{◌≡◌, cond, List, [], ℕ, length}
use Rattle.bencode.specs.Value.{Value, Entries, str, int, list, dict, empty, entry, encode}
use Rattle.bencode_walk.specs.Lookup.{same_key}
use Rattle.bencode_walk.specs.Has.{Has}
use Rattle.hash_sha1.specs.Sha1.{sha1}
use Rattle.torrent_metainfo.specs.Keys.{announce_key, info_key}

-- a row: a key of 20 bytes, and a string under it
abbrev pub IsRow : List ℕ → Value → Type 0
IsRow k v = (length k ≡ 20) × ((bs : List ℕ) × (v ≡ str bs))

-- a sheet: a dictionary of rows
pub data IsSheet : Value → Type 0 where
  is-sheet : (es : Entries) → ((k : List ℕ) (v : Value) → Has es k v → IsRow k v) → IsSheet (dict es)

-- the value under a key, or w where there is none
unfoldable pub held_or : Value → Entries → List ℕ → Value
held_or w empty k = w
held_or w (entry j v es) k = let r : Value = held_or w es k in cond (same_key j k) v r

abbrev pub under_or : Value → Value → List ℕ → Value
under_or w (dict es) k = held_or w es k
under_or w (str bs) k = w
under_or w (int z) k = w
under_or w (list vs) k = w

abbrev pub value_under : Value → List ℕ → Value
value_under = under_or (str [])

-- the address for a torrent by a sheet: what the sheet has under the torrent's info hash, else what the torrent has under announce
abbrev pub address_of : Value → Value → Value
address_of torrent sheet = under_or (value_under torrent announce_key) sheet (sha1 (encode (value_under torrent info_key)))
