-- Torrents of one file as they are written. Assumes nothing: these are definitions.
use Rattle.std.specs.Prelude.{cond, List, ℕ, ltb, pos}
use Rattle.std.proofs.Math.ListN as seq
use Rattle.refusal.specs.Paper.{Outcome, taken, refused, then}
use Rattle.refusal.specs.Numbers.{long}
use Rattle.refusal.specs.Limits.{most_text}
use Rattle.bencode.specs.Value.{Value, str, int, dict, empty, entry, encode}
use Rattle.bencode_writer.specs.Put.{Left, left, put_of}
use Rattle.torrent_metainfo.specs.Keys.{announce_key, info_key, length_key, name_key, piece_length_key, pieces_key}
use Rattle.torrent_metainfo.specs.Rules.{torrent_of}

-- what is written of a torrent
pub record Fields : Type 0 where
  pub announce : List ℕ
  pub name : List ℕ
  pub piece_length_of : ℕ
  pub pieces : List ℕ
  pub length : ℕ

abbrev pub fields : List ℕ → List ℕ → ℕ → List ℕ → ℕ → Fields
fields a n pl ps l = record { announce = a; name = n; piece_length_of = pl; pieces = ps; length = l }

-- a dictionary of announce and info, and no other key
abbrev pub top_with : Value → Value → Value
top_with a i = dict (entry announce_key a (entry info_key i empty))

-- a dictionary of length, name, piece length and pieces, and no other key
abbrev pub info_with : Value → Value → Value → Value → Value
info_with l n pl ps = dict (entry length_key l (entry name_key n (entry piece_length_key pl (entry pieces_key ps empty))))

-- the torrent of one file with these fields
abbrev pub torrent_value : Fields → Value
torrent_value f = top_with (str f.announce) (info_with (int (pos f.length)) (str f.name) (int (pos f.piece_length_of)) (str f.pieces))

abbrev pub text_of : Fields → List ℕ
text_of f = encode (torrent_value f)

-- a refusal's place becomes 0
abbrev pub at_start : {A : Type 0} → Outcome A → Outcome A
at_start (taken x) = taken x
at_start (refused n p) = refused n 0

-- the reader's rules for that torrent, every place 0; then the limit of a text; then how many bytes it has
unfoldable pub size_of : Fields → Outcome ℕ
size_of f = then (at_start (torrent_of (torrent_value f))) (λ t. cond (ltb most_text (seq.length (text_of f))) (refused long 0) (taken (seq.length (text_of f))))

-- then the room in the lent output o
abbrev pub puts : List ℕ → List ℕ → Outcome ℕ → Left
puts w o (taken n) = put_of w 0 o
puts w o (refused n p) = left (refused n p) o

unfoldable pub write_of : Fields → List ℕ → Left
write_of f o = puts (text_of f) o (size_of f)
