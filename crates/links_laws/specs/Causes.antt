-- Why a text is no link, and where: the first fault from left to right. Assumes nothing: these are definitions.
use Rattle.std.specs.Prelude.{◌≡◌, List, [], ◌∷◌, ◌++◌, ℕ, ◌<◌, length}
use Rattle.refusal.specs.Texts.{bytes}
use Rattle.links.specs.Link.{Meaning}
use Rattle.links_laws.specs.Form.{Pair, AllInForm, pair_text, values_of, IsLink}

-- some link begins with q
abbrev pub Opens : List ℕ → Type 0
Opens q = (r : List ℕ) × ((m : Meaning) × IsLink (q ++ r) m)

-- a link begins with the bytes q of s, and none with these and the byte after them
pub record Breaks (s q : List ℕ) : Type 0 where
  pub byte : ℕ
  pub rest : List ℕ
  pub text : s ≡ q ++ (byte ∷ rest)
  pub opens : Opens q
  pub breaks : Opens (q ++ (byte ∷ [])) → ⊥

-- pairs, each with "&" after it
unfoldable pub ended : List Pair → List ℕ
ended [] = []
ended (x ∷ xs) = pair_text x ++ (38 ∷ ended xs)

-- the names of which a link has one pair at most
pub data Known : List ℕ → Type 0 where
  hash : Known (bytes "xt")
  name : Known (bytes "dn")
  address : Known (bytes "tr")

-- after pairs with which a link begins, a name of theirs, up to its "=", which comes once too often; p is the place of its first letter
pub record Again (s : List ℕ) (p : ℕ) : Type 0 where
  pub pairs : List Pair
  pub name : List ℕ
  pub rest : List ℕ
  pub text : s ≡ bytes "magnet:?" ++ (ended pairs ++ (name ++ (61 ∷ rest)))
  pub place : p ≡ length (bytes "magnet:?" ++ ended pairs)
  pub form : AllInForm pairs
  pub opens : Opens (bytes "magnet:?" ++ ended pairs)
  pub known : Known name
  pub before : 0 < length (values_of name pairs)

-- a name that comes once too often; else the first byte that breaks the form; or the end, of a text that stops short or has no xt
pub data Fault (s : List ℕ) : ℕ → Type 0 where
  again : (p : ℕ) → Again s p → Fault s p
  breaks : (q : List ℕ) → Breaks s q → ((p : ℕ) → Again s p → ⊥) → Fault s (length q)
  short : Opens s → ((m : Meaning) → IsLink s m → ⊥) → Fault s (length s)
