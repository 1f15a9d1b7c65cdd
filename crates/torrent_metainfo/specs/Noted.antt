-- What one pass over info tells. Assumes nothing: these are definitions.
-- They serve inner contracts alone and need not be believed: torrent_metainfo/proofs/Informing.antt ties them to Rules.antt.
use Rattle.refusal.specs.Paper.{paper}
use Rattle.std.specs.Prelude.{◌≡◌, List, ℕ, ◌+◌, length}
use Rattle.bencode.specs.Value.{Entries, encode_entries, Prev}
use Rattle.bencode_walk.specs.Lookup.{lookup}
use Rattle.bencode_walk.specs.Stands.{StandEntries}
use Rattle.bencode_fields.specs.Values.{must}
use Rattle.torrent_metainfo.specs.declared.Known.{Known}
use Rattle.torrent_metainfo.specs.Keys.{files_key, length_key, name_key, piece_length_key, pieces_key, Tells, stop_of}
use Rattle.torrent_metainfo.specs.Reading.{files_at}

-- what is left at q of the entries es that stand at p, up to the same end
pub record Goes (s : List ℕ) (d p : ℕ) (es : Entries) (q : ℕ) : Type 0 where
  pub before : Prev
  pub left : Entries
  pub stands : StandEntries s d q before left
  pub ends : q + length (encode_entries left) ≡ p + length (encode_entries es)

-- of info at i, whose entries es stand at p: what is under each key, what the files are, and what is left where the last search stopped
pub record Noted (s : List ℕ) (d i p : ℕ) (es : Entries) (k : Known) : Type 0 where
  pub files : Tells s d (lookup p es files_key) k.files
  pub listed : paper k.listed ≡ must i (lookup p es files_key) files_at
  pub length : Tells s d (lookup p es length_key) k.length
  pub name : Tells s d (lookup p es name_key) k.name
  pub piece : Tells s d (lookup p es piece_length_key) k.piece_length
  pub pieces : Tells s d (lookup p es pieces_key) k.pieces
  pub close : Goes s d p es (stop_of k.pieces)
