-- How long what is printed can be, by the bytes that it is printed for. Assumes nothing.
use Rattle.std.proofs.Common.{◌≡◌, refl, Bool, true, false, List, ◌∷◌, ◌++◌, ℕ, ◌+◌, ◌*◌, ◌≤◌, arith, ltb-true, ltb-false, ltb, length, length-append}
use Rattle.bencode_scalar.specs.Written.{decimal, written_string}
use Rattle.bencode_writer.proofs.Decimals.{length-one, length_last}
use Rattle.bencode.specs.Value.{Value, Items, Entries, str, int, list, dict, none, item, empty, entry, encode, encode_items, encode_entries}
use Rattle.bencode.proofs.Complete.{encode-pos}
use Rattle.bencode_walk.specs.Has.{Has, here, there}
use Rattle.torrent_lines.specs.Lines.{bytes_in, elements_in, escaped, plain}
use Rattle.torrent_lines.specs.Places.{marked}
use Rattle.bencode_writer.proofs.Escapes.{escaped-most}

-- ---- numbers

pub digits-some : (n : ℕ) → 1 ≤ length (decimal n)
digits-some n = go (ltb n 10) refl
  where
    go : (b : Bool) → ltb n 10 ≡ b → 1 ≤ length (decimal n)
    go true e = omega (arith, length-one n (ltb-true n 10 e))
    go false e = omega (arith, length_last n (ltb-false n 10 e))

-- ---- lengths of encodings

pub string-length : (bs : List ℕ) → length bs + 2 ≤ length (encode (str bs))
unfolding encode
string-length bs = omega (arith, length-append (decimal (length bs)) (58 ∷ bs), digits-some (length bs))

pub list_length : (vs : Items) → length (encode (list vs)) ≡ length (encode_items vs) + 1
unfolding encode
list_length vs = omega arith

pub dict-length : (es : Entries) → length (encode (dict es)) ≡ length (encode_entries es) + 1
unfolding encode
dict-length es = omega arith

pub entries-pos : (es : Entries) → 1 ≤ length (encode_entries es)
unfolding encode_entries
entries-pos empty = omega arith
entries-pos (entry k v es) = omega (arith, length-append (written_string k) (encode v ++ encode_entries es), length-append (encode v) (encode_entries es), entries-pos es)

-- what a dictionary has under a key is a part of it
pub has_room : (es : Entries) (k : List ℕ) (v : Value) → Has es k v → length k + length (encode v) + 3 ≤ length (encode_entries es)
unfolding encode_entries
has_room es k v (here j w ds) =
    omega (arith, length-append (written_string j) (encode w ++ encode_entries ds), length-append (encode w) (encode_entries ds), length-append (decimal (length j)) (58 ∷ j), digits-some (length j), entries-pos ds)
has_room es k v (there j w ds l u x) =
    omega (arith, length-append (written_string j) (encode w ++ encode_entries ds), length-append (encode w) (encode_entries ds), has_room ds l u x)

-- ---- paths

bytes_most : (v : Value) → length (bytes_in v) + 1 ≤ length (encode v)
bytes_most (str bs) = omega (arith, string-length bs)
bytes_most (int z) = encode-pos (int z)
bytes_most (list vs) = encode-pos (list vs)
bytes_most (dict es) = encode-pos (dict es)

pub marked-most : (m : ℕ) (vs : Items) → length (marked m (elements_in vs)) + 3 ≤ 3 * length (encode_items vs)
unfolding marked elements_in encode_items
marked-most m none = omega arith
marked-most m (item v vs) =
    omega (arith, length-append (escaped (bytes_in v)) (marked 47 (elements_in vs)), length-append (encode v) (encode_items vs), escaped-most plain (bytes_in v), bytes_most v, marked-most 47 vs)
