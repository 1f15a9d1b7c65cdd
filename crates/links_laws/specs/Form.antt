-- What a magnet link is, by document 02: pairs of a name and a value, their text, and what they mean. Assumes nothing: these are definitions.
use Rattle.std.specs.Prelude.{◌≡◌, cond, List, [], ◌∷◌, ◌++◌, ℕ, ◌<◌, length}
use Rattle.refusal.specs.Texts.{bytes}
use Rattle.bencode_walk.specs.Lookup.{same_key}
use Rattle.links.specs.Link.{HexText, Spells, NameBytes, Said, absent, said, Meaning}

-- ---- pairs

pub record Pair : Type 0 where
  pub name : List ℕ
  pub value : List ℕ

-- a name of one or more bytes, and a value that spells bytes
pub record InForm (x : Pair) : Type 0 where
  pub some : 0 < length x.name
  pub name : NameBytes x.name
  pub spelt : List ℕ
  pub value : Spells x.value spelt

pub data AllInForm : List Pair → Type 0 where
  no-pair : AllInForm []
  a_pair : (x : Pair) (xs : List Pair) → InForm x → AllInForm xs → AllInForm (x ∷ xs)

-- the name, "=" and the value
abbrev pub pair_text : Pair → List ℕ
pair_text x = x.name ++ (61 ∷ x.value)

-- parted by "&"
unfoldable pub parted : List Pair → List ℕ
parted [] = []
parted (x ∷ []) = pair_text x
parted (x ∷ y ∷ xs) = pair_text x ++ (38 ∷ parted (y ∷ xs))

-- the values under a name
unfoldable pub values_of : List ℕ → List Pair → List (List ℕ)
values_of k [] = []
values_of k (x ∷ xs) = let more : List (List ℕ) = values_of k xs in cond (same_key x.name k) (x.value ∷ more) more

-- ---- links

-- the value of xt for the 20 bytes of an info hash: urn:btih: and 40 hex digits
pub record NamesHash (v h : List ℕ) : Type 0 where
  pub digits : List ℕ
  pub text : v ≡ bytes "urn:btih:" ++ digits
  pub hex : HexText digits h
  pub whole : length h ≡ 20

-- at most one value, and what it says by R
pub data AtMostOne (R : List ℕ → List ℕ → Type 0) : List (List ℕ) → Said → Type 0 where
  none : AtMostOne R [] absent
  one : (v bs : List ℕ) → R v bs → AtMostOne R (v ∷ []) (said bs)

-- the text s is a link, and says m
pub record IsLink (s : List ℕ) (m : Meaning) : Type 0 where
  pub pairs : List Pair
  pub text : s ≡ bytes "magnet:?" ++ parted pairs
  pub form : AllInForm pairs
  pub xt : AtMostOne NamesHash (values_of (bytes "xt") pairs) (said m.hash)
  pub dn : AtMostOne Spells (values_of (bytes "dn") pairs) m.name
  pub tr : AtMostOne Spells (values_of (bytes "tr") pairs) m.address
