-- A torrent that was read, by the fields that a writer takes. Assumes nothing: these are definitions.
use Rattle.std.specs.Prelude.{◌≡◌, true, List, ℕ, take, drop}
use Rattle.refusal.specs.Paper.{taken}
use Rattle.refusal.specs.Parts.{bytes_at}
use Rattle.bencode.specs.Value.{Value}
use Rattle.torrent_metainfo.specs.Reading.{read_of}
use Rattle.torrent_metainfo.specs.declared.Torrent.{Torrent}
use Rattle.torrent_authoring.specs.Writing.{Fields, fields, top_with, info_with, text_of}

-- the fields of the torrent t that the text s was read as
abbrev pub fields_of : List ℕ → Torrent → Fields
fields_of s t = fields (bytes_at s t.announce) (bytes_at s t.name) t.piece_length (bytes_at s t.pieces) t.content.total

-- t has one file and the fields f
pub record Gives (s : List ℕ) (t : Torrent) (f : Fields) : Type 0 where
  pub same : fields_of s t ≡ f
  pub single : t.content.single ≡ true

-- no keys but those of a torrent with one file, whatever stands under them
pub data OnlyThose : Value → Type 0 where
  only : (a l n pl ps : Value) → OnlyThose (top_with a (info_with l n pl ps))

-- the first q bytes of out are a text that is read as a torrent with the fields f, and past them out is as o was
pub record ReadsBack (f : Fields) (q : ℕ) (o out : List ℕ) : Type 0 where
  pub text : take q out ≡ text_of f
  pub torrent : Torrent
  pub read : read_of (take q out) ≡ taken torrent
  pub gives : Gives (take q out) torrent f
  pub past : drop q out ≡ drop q o
