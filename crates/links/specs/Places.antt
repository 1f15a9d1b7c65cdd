-- What stands at the places of a text that the pass over it keeps. Assumes nothing: these are definitions.
-- They serve inner contracts alone and need not be believed: the contract of the reader speaks of Reading.antt.
use Rattle.std.specs.Prelude.{◌≡◌, Bool, false, cond, List, [], ◌∷◌, ◌++◌, ℕ, suc, ◌+◌, ◌-◌, ◌<◌, ◌≤◌, eqb, leb, length, get_or, take, drop, Err, None, Ok, Option, Result, Some, is_some}
use Rattle.refusal.specs.Paper.{Outcome, taken, refused}
use Rattle.refusal.specs.Numbers as no
use Rattle.links.specs.Link.{plain_byte, HexText, Spells, Said, absent, said, Meaning}
use Rattle.links.specs.Reading.{Seen, Mode, naming, value, going, valued, fed, finish, meant}
use Rattle.links.specs.declared.scan.Field.{Field}
use Rattle.links.specs.declared.scan.Field.TheVariants.{Hash, Name, Address, Other}
use Rattle.links.specs.declared.scan.Spelt.{Spelt}
use Rattle.links.specs.declared.scan.Pass.{Pass}

-- the answer, from a place of a text on
abbrev pub answer_at : List ℕ → ℕ → Seen → Mode → Outcome Meaning
answer_at s p n m = finish (fed (going p n m) (drop p s))

-- how many bytes at the front are of a kind
unfoldable pub runs : (ℕ → Bool) → List ℕ → ℕ
runs f [] = 0
runs f (b ∷ s) = let more : ℕ = runs f s in cond (f b) (suc more) 0

-- how many bytes of a word a text begins with
unfoldable pub common : List ℕ → List ℕ → ℕ
common s [] = 0
common [] (c ∷ w) = 0
common (b ∷ s) (c ∷ w) = let more : ℕ = common s w in cond (eqb b c) (suc more) 0

-- the text from p to q spells bytes
pub record SpeltTo (s : List ℕ) (p q : ℕ) (bs : List ℕ) : Type 0 where
  pub text : List ℕ
  pub there : drop p s ≡ text ++ drop q s
  pub place : q ≡ p + length text
  pub end : q ≤ length s
  pub spells : Spells text bs

-- at p stands what spells bytes, and two hex digits for each of a hash's bytes
pub record SpeltAt (s : List ℕ) (p : ℕ) (bs : List ℕ) : Type 0 where
  pub text : List ℕ
  pub rest : List ℕ
  pub there : drop p s ≡ text ++ rest
  pub spells : Spells text bs

pub record HashAt (s : List ℕ) (p : ℕ) (bs : List ℕ) : Type 0 where
  pub text : List ℕ
  pub rest : List ℕ
  pub there : drop p s ≡ text ++ rest
  pub hex : HexText text bs
  pub whole : length bs ≡ 20

-- what it keeps of a value is what was said
pub data Holds (R : ℕ → List ℕ → Type 0) : Option Spelt → Said → Type 0 where
  unheld : Holds R None absent
  held : (p k : ℕ) (bs : List ℕ) → R p bs → k ≡ length bs → Holds R (Some (record { from = p; size = k })) (said bs)

pub record Shows (s : List ℕ) (x : Pass) (n : Seen) : Type 0 where
  pub hash : Holds (HashAt s) x.hash n.hash
  pub name : Holds (SpeltAt s) x.name n.name
  pub address : Holds (SpeltAt s) x.address n.address

-- a value from p on: it ends at a place with its number of bytes, or is broken off
abbrev pub Valued : List ℕ → ℕ → Result (ℕ × ℕ) ℕ → Type 0
Valued s p (Ok (q, k)) = (bs : List ℕ) × SpeltTo s p q bs × (k ≡ length bs) × ((q < length s) → (plain_byte (get_or s q 0) ≡ false) × (eqb (get_or s q 0) 37 ≡ false))
Valued s p (Err q) = (n : Seen) (f : Field) (v : List ℕ) → answer_at s p n (value f v) ≡ refused no.link q

-- after a pair: what is said then, and where another begins unless the text ends; or the place of a fault
abbrev pub Turn : Type 0
Turn = Result (Pass × Option ℕ) ℕ

-- what comes to the answer o, where a pair is read from p on: another pair, with what is said then; the end; or a fault
abbrev pub TurnedAs : List ℕ → Outcome Meaning → ℕ → Turn → Type 0
TurnedAs s o p (Ok (x, Some q)) = (m : Seen) × Shows s x m × (o ≡ answer_at s q m (naming [])) × (p < q) × (q ≤ length s)
TurnedAs s o p (Ok (x, None)) = (m : Seen) × Shows s x m × (o ≡ meant (length s) m)
TurnedAs s o p (Err q) = o ≡ refused no.link q

-- after the name that stands from p up to an "=" at q
abbrev pub named_at : List ℕ → ℕ → ℕ → Seen → Outcome Meaning
named_at s p q n = finish (fed (valued q n (take (q - p) (drop p s))) (drop (q + 1) s))

-- what the pass keeps, by a field
abbrev pub keeps : Field → Pass → Bool
keeps Hash x = is_some x.hash
keeps Name x = is_some x.name
keeps Address x = is_some x.address
keeps Other x = false

abbrev pub kept : Field → Spelt → Pass → Pass
kept Hash v x = record { hash = Some v; name = x.name; address = x.address }
kept Name v x = record { hash = x.hash; name = Some v; address = x.address }
kept Address v x = record { hash = x.hash; name = x.name; address = Some v }
kept Other v x = x

-- after a pair that ends at p
abbrev pub closed_at : List ℕ → ℕ → Pass → Turn
closed_at s p x = cond (leb (length s) p) (Ok (x, None)) (cond (eqb (get_or s p 0) 38) (Ok (x, Some (p + 1))) (Err p))

-- where a hash, a name and an address stand; or the place of a fault
abbrev pub Scanned : Type 0
Scanned = Result (ℕ × Option Spelt × Option Spelt) ℕ

-- after the last pair, at the end of a text of c bytes
abbrev pub found_by : Option Spelt → Pass → ℕ → Scanned
found_by None x c = Err c
found_by (Some h) x c = Ok (h.from, x.name, x.address)

abbrev pub whole_of : Pass → ℕ → Scanned
whole_of x c = found_by x.hash x c

-- the whole text
pub data ScannedAs (s : List ℕ) : Scanned → Outcome Meaning → Type 0 where
  found : (h : ℕ) (x y : Option Spelt) (m : Meaning) → HashAt s h m.hash → Holds (SpeltAt s) x m.name → Holds (SpeltAt s) y m.address → ScannedAs s (Ok (h, x, y)) (taken m)
  unfound : (p : ℕ) → ScannedAs s (Err p) (refused no.link p)

-- how many bytes a value spells, if it is there, and the answer's words for it
abbrev pub size_in : Option Spelt → ℕ
size_in None = 0
size_in (Some v) = v.size

abbrev pub given_in : Option Spelt → Option ℕ
given_in None = None
given_in (Some v) = Some v.size
