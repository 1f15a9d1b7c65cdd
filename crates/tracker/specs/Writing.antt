-- Compact replies as they are written. Assumes nothing: these are definitions.
use Rattle.std.specs.Prelude.{cond, List, ℕ, ◌%◌, ltb, pos, length}
use Rattle.refusal.specs.Paper.{refused}
use Rattle.refusal.specs.Numbers.{long, range, peer}
use Rattle.refusal.specs.Limits.{most_text, longest_interval}
use Rattle.bencode.specs.Value.{Value, str, int, dict, empty, entry, encode}
use Rattle.bencode_writer.specs.Put.{Left, left, put_of}
use Rattle.tracker.specs.Keys.{interval, peers}

-- the reply with n seconds to wait and the entries bs: interval and peers, and no other key
abbrev pub compact_reply : ℕ → List ℕ → Value
compact_reply n bs = dict (entry interval (int (pos n)) (entry peers (str bs) empty))

abbrev pub text_of : ℕ → List ℕ → List ℕ
text_of n bs = encode (compact_reply n bs)

-- the reader's rules, then the limit of a text, then the room in the lent output o
unfoldable pub write_of : ℕ → List ℕ → List ℕ → Left
write_of n bs o =
    cond (ltb longest_interval n) (left (refused range 0) o)
    (cond (ltb 0 (length bs % 6)) (left (refused peer 0) o)
    (cond (ltb most_text (length (text_of n bs))) (left (refused long 0) o)
    (put_of (text_of n bs) 0 o)))
