-- What hashing says to C, and a message so far as C holds it: six words, the hash value and how many bytes there are, and the 64 bytes after its whole blocks. Assumes nothing: these are definitions.
use Rattle.std.specs.Prelude.{◌≡◌, List, [], ◌∷◌, ℕ, get_or}
use Rattle.hash_sha1.specs.declared.stream.Stream.{Stream}
use Rattle.hash_sha1.specs.Digest.{Left}
use Rattle.wardrail.specs.Said.{word_of}

abbrev pub words_of : Stream → List ℕ
words_of s = s.hash.a ∷ s.hash.b ∷ s.hash.c ∷ s.hash.d ∷ s.hash.e ∷ s.length ∷ []

abbrev pub state_of : List ℕ → List ℕ → Stream
state_of w tail =
    record {
      hash = record { a = get_or w 0 0; b = get_or w 1 0; c = get_or w 2 0; d = get_or w 3 0; e = get_or w 4 0 };
      tail = tail;
      length = get_or w 5 0;
    }

-- six words and 64 bytes hold a message so far
abbrev pub Holds : Stream → List ℕ → List ℕ → Type 0
Holds s w tail = (w ≡ words_of s) × (tail ≡ s.tail)

-- the word r is answered, and the lent 20 bytes are o then, both as l has it
pub record Digested (l : Left) (r : ℕ) (o : List ℕ) : Type 0 where
  pub word : r ≡ word_of l.answer
  pub out : o ≡ l.out
