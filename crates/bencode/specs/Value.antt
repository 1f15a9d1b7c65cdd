-- Bencode values, how BEP 3 writes them, how many they are, and which of them document 01 takes. Assumes nothing: these are definitions.
use Rattle.std.specs.Prelude.{◌≡◌, Bool, true, List, [], ◌∷◌, ◌++◌, ℕ, suc, ◌+◌, ℤ}
use Rattle.bencode_scalar.specs.Written.{written_string, written_int, key_lt}

mutual
  pub data Value : Type 0 where
    str : List ℕ → Value
    int : ℤ → Value
    list : Items → Value
    dict : Entries → Value

  pub data Items : Type 0 where
    none : Items
    item : Value → Items → Items

  pub data Entries : Type 0 where
    empty : Entries
    entry : List ℕ → Value → Entries → Entries

-- a list is l, its items and e; a dictionary is d, its keys and values in turn and e
unfoldable mutual
  pub encode : Value → List ℕ
  encode (str bs) = written_string bs
  encode (int z) = written_int z
  encode (list vs) = 108 ∷ encode_items vs
  encode (dict es) = 100 ∷ encode_entries es

  pub encode_items : Items → List ℕ
  encode_items none = 101 ∷ []
  encode_items (item v vs) = encode v ++ encode_items vs

  pub encode_entries : Entries → List ℕ
  encode_entries empty = 101 ∷ []
  encode_entries (entry k v es) = written_string k ++ (encode v ++ encode_entries es)

-- how many values: every key counts as a value of its own
unfoldable mutual
  pub count : Value → ℕ
  count (str bs) = 1
  count (int z) = 1
  count (list vs) = suc (count_items vs)
  count (dict es) = suc (count_entries es)

  pub count_items : Items → ℕ
  count_items none = 0
  count_items (item v vs) = count v + count_items vs

  pub count_entries : Entries → ℕ
  count_entries empty = 0
  count_entries (entry k v es) = suc (count v + count_entries es)

-- the key before, if there is one
pub data Prev : Type 0 where
  start : Prev
  last : List ℕ → Prev

abbrev pub follows : Prev → List ℕ → Bool
follows start k = true
follows (last j) k = key_lt j k

-- keys strictly ascending, and lists and dictionaries d levels deep at most; an integer may have any length
unfoldable mutual
  pub Keeps : Value → ℕ → Type 0
  Keeps (str bs) d = Unit
  Keeps (int z) d = Unit
  Keeps (list vs) d = (e : ℕ) × (d ≡ suc e) × KeepsItems vs e
  Keeps (dict es) d = (e : ℕ) × (d ≡ suc e) × KeepsEntries es e start

  pub KeepsItems : Items → ℕ → Type 0
  KeepsItems none d = Unit
  KeepsItems (item v vs) d = Keeps v d × KeepsItems vs d

  pub KeepsEntries : Entries → ℕ → Prev → Type 0
  KeepsEntries empty d p = Unit
  KeepsEntries (entry k v es) d p = (follows p k ≡ true) × Keeps v d × KeepsEntries es d (last k)
