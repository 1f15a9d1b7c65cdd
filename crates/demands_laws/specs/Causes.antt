-- Causes of a refusal that the crates below do not name. Assumes nothing: these are definitions.
use Rattle.std.specs.Prelude.{◌≡◌, List, ℕ, ◌≤◌, ◌<◌, length}
use Rattle.refusal.specs.Paper.{taken}
use Rattle.refusal.specs.Limits.{most_text, longest_piece}
use Rattle.bencode.specs.Value.{Value}
use Rattle.bencode.specs.Decode.{decode}
use Rattle.tracker.specs.Causes.{NoReply}
use Rattle.torrent_metainfo.specs.declared.Torrent.{Torrent}
use Rattle.torrent_authoring.specs.Writing.{Fields, text_of}
use Rattle.torrent_authoring.specs.Rules.{Broken, Ruled}
use Rattle.torrent_contents.specs.Pieces.{piece_bytes_of}

-- the text is the encoding of a value that keeps bencode's limits and is no reply
abbrev pub NoReplyText : List ℕ → ℕ → ℕ → Type 0
NoReplyText s n p = (v : Value) × (decode s ≡ taken v) × NoReply v n p

-- why the bytes m are not checked as piece n of the torrent t
pub data Unchecked (t : Torrent) (n : ℕ) (m : List ℕ) : ℕ → Type 0 where
  no-such-piece : t.piece_count ≤ n → Unchecked t n m 31
  long-piece : n < t.piece_count → longest_piece < length m → Unchecked t n m 8
  wrong-length : n < t.piece_count → length m ≤ longest_piece → (length m ≡ piece_bytes_of t.content.total t.piece_length n → ⊥) → Unchecked t n m 34

-- why a torrent with these fields has no size: a rule is broken, or its text would be too long
pub data Unsized (f : Fields) : ℕ → Type 0 where
  broken : {n : ℕ} → Broken f n → Unsized f n
  over : Ruled f → most_text < length (text_of f) → Unsized f 8
