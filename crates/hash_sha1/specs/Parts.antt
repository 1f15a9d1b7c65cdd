-- What adding a part to a message so far, and finishing it, come to, for any state. Assumes nothing: these are definitions.
use Rattle.std.specs.Prelude.{cond, List, [], ◌∷◌, ◌++◌, ℕ, ◌+◌, ◌%◌, leb, length, take, replicate}
use Rattle.refusal.specs.Paper.{taken, refused}
use Rattle.refusal.specs.Numbers.{long}
use Rattle.refusal.specs.Limits.{longest_piece}
use Rattle.hash_digest.specs.Message.{padding, hashed, rest, filled}
use Rattle.hash_sha1.specs.Sha1.{initial, compress, output}
use Rattle.hash_sha1.specs.Digest.{Left, left}
use Rattle.hash_sha1.specs.declared.stream.Stream.{Stream}

-- the state of the empty message
abbrev pub begun : Stream
begun = record { hash = initial; tail = replicate 64 0; length = 0 }

-- the state of every message that is too long
abbrev pub over : Stream
over = record { hash = initial; tail = replicate 64 0; length = longest_piece + 1 }

-- the bytes after the whole blocks
abbrev pub held : Stream → List ℕ
held s = take (s.length % 64) s.tail

-- the state with a part after it: what was held and the part are hashed block by block, and what is left is held
abbrev pub grown : Stream → List ℕ → Stream
grown s part =
    record {
      hash = hashed compress s.hash (held s ++ part);
      tail = filled 64 (rest (held s ++ part));
      length = s.length + length part;
    }

-- the same where both are not too long
unfoldable pub add_of : Stream → List ℕ → Stream
add_of s part = cond (leb (s.length + length part) longest_piece) (grown s part) over

-- the message that parts make
unfoldable pub joined : List (List ℕ) → List ℕ
joined [] = []
joined (part ∷ parts) = part ++ joined parts

-- all parts of a list, one after the other
unfoldable pub add_all : Stream → List (List ℕ) → Stream
add_all s [] = s
add_all s (part ∷ parts) = add_all (add_of s part) parts

-- the digest written over o, with the padding after what is held; of a message that is too long none: 8 at 0, and o as it was
unfoldable pub finish_of : Stream → List ℕ → Left
finish_of s o =
    cond (leb s.length longest_piece)
    (left (taken tt) (output (hashed compress s.hash (held s ++ padding s.length))))
    (left (refused long 0) o)
