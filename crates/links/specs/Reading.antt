-- What the reader answers for a text and two lent outputs. Assumes nothing: these are definitions.
-- The steps from byte to byte need not be believed: `link-exact` and `link-19` of the book tie `read_of` to Form.antt and Causes.antt of links_laws/specs.
use Rattle.refusal.specs.declared.Refusal.{Refusal}
use Rattle.std.specs.Prelude.{Bool, true, false, cond, ◌&&◌, List, [], ◌∷◌, ◌++◌, ℕ, zero, suc, ◌+◌, ◌*◌, ◌-◌, ltb, leb, eqb, length, Err, None, Ok, Option, Result, Some}
use Rattle.std.proofs.lemmas.List.Edits.{sets}
use Rattle.refusal.specs.Texts.{bytes}
use Rattle.refusal.specs.Paper.{Outcome, taken, refused, refusal}
use Rattle.refusal.specs.Numbers as no
use Rattle.refusal.specs.Limits.{most_text}
use Rattle.bencode_walk.specs.Lookup.{same_key}
use Rattle.links.specs.Link.{between, name_byte, plain_byte, Said, absent, said, Meaning}
use Rattle.links.specs.declared.scan.Field.{Field}
use Rattle.links.specs.declared.scan.Field.TheVariants.{Hash, Name, Address, Other}

-- ---- from byte to byte

-- what a byte counts as a hex digit; 16 if it is none
abbrev pub nibble : ℕ → ℕ
nibble b = cond (between 48 57 b) (b - 48) (cond (between 65 70 b) (b - 55) (cond (between 97 102 b) (b - 87) 16))

abbrev pub is_hex : ℕ → Bool
is_hex b = ltb (nibble b) 16

-- what a name is the name of
unfoldable pub field_of : List ℕ → Field
field_of k = cond (same_key k (bytes "xt")) Hash (cond (same_key k (bytes "dn")) Name (cond (same_key k (bytes "tr")) Address Other))

-- what the pairs so far have said
pub record Seen : Type 0 where
  pub hash : Said
  pub name : Said
  pub address : Said

abbrev pub unsaid : Seen
unsaid = record { hash = absent; name = absent; address = absent }

abbrev pub is_said : Said → Bool
is_said absent = false
is_said (said bs) = true

abbrev pub has : Field → Seen → Bool
has Hash n = is_said n.hash
has Name n = is_said n.name
has Address n = is_said n.address
has Other n = false

abbrev pub with : Field → List ℕ → Seen → Seen
with Hash bs n = record { hash = said bs; name = n.name; address = n.address }
with Name bs n = record { hash = n.hash; name = said bs; address = n.address }
with Address bs n = record { hash = n.hash; name = n.name; address = said bs }
with Other bs n = n

-- where the reader stands: before a byte of "magnet:?" and those after it; in a name; before a byte of "urn:btih:" and those after it; in a hash, with
-- how many bytes are to come and those that came, and between two digits of a byte; in a value, after its "%", and after one digit
pub data Mode : Type 0 where
  prefix : ℕ → List ℕ → Mode
  naming : List ℕ → Mode
  urn : ℕ → List ℕ → Mode
  digits : ℕ → List ℕ → Mode
  half : ℕ → List ℕ → ℕ → Mode
  value : Field → List ℕ → Mode
  percent : Field → List ℕ → Mode
  digit : Field → List ℕ → ℕ → Mode

-- before the byte at a place; or stopped, by a fault with its place
pub data State : Type 0 where
  going : ℕ → Seen → Mode → State
  stopped : ℕ → State

abbrev pub prefixed : List ℕ → Mode
prefixed [] = naming []
prefixed (c ∷ w) = prefix c w

abbrev pub urned : List ℕ → Mode
urned [] = digits 20 []
urned (c ∷ w) = urn c w

abbrev pub opening : Field → Mode
opening Hash = urned (bytes "urn:btih:")
opening Name = value Name []
opening Address = value Address []
opening Other = value Other []

-- after "=", which stands at p after the name k
abbrev pub valued : ℕ → Seen → List ℕ → State
valued p n [] = stopped p
valued p n (c ∷ k) = cond (has (field_of (c ∷ k)) n) (stopped (p - length (c ∷ k))) (going (p + 1) n (opening (field_of (c ∷ k))))

-- the byte b at p
unfoldable pub in_mode : ℕ → Seen → Mode → ℕ → State
in_mode p n (prefix c w) b = cond (eqb b c) (going (p + 1) n (prefixed w)) (stopped p)
in_mode p n (naming k) b = cond (name_byte b) (going (p + 1) n (naming (k ++ (b ∷ [])))) (cond (eqb b 61) (valued p n k) (stopped p))
in_mode p n (urn c w) b = cond (eqb b c) (going (p + 1) n (urned w)) (stopped p)
in_mode p n (digits zero h) b = cond (eqb b 38) (going (p + 1) (with Hash h n) (naming [])) (stopped p)
in_mode p n (digits (suc k) h) b = cond (is_hex b) (going (p + 1) n (half k h (nibble b))) (stopped p)
in_mode p n (half k h x) b = cond (is_hex b) (going (p + 1) n (digits k (h ++ ((16 * x + nibble b) ∷ [])))) (stopped p)
in_mode p n (value f v) b =
    cond (plain_byte b) (going (p + 1) n (value f (v ++ (b ∷ []))))
    (cond (eqb b 37) (going (p + 1) n (percent f v))
    (cond (eqb b 38) (going (p + 1) (with f v n) (naming [])) (stopped p)))
in_mode p n (percent f v) b = cond (is_hex b) (going (p + 1) n (digit f v (nibble b))) (stopped p)
in_mode p n (digit f v x) b = cond (is_hex b) (going (p + 1) n (value f (v ++ ((16 * x + nibble b) ∷ [])))) (stopped p)

abbrev pub step : State → ℕ → State
step (going p n m) b = in_mode p n m b
step (stopped p) b = stopped p

unfoldable pub fed : State → List ℕ → State
fed st [] = st
fed st (b ∷ s) = fed (step st b) s

-- at the end of a text of p bytes, by what all pairs have said
abbrev pub told : ℕ → Said → Seen → Outcome Meaning
told p absent n = refused no.link p
told p (said h) n = taken (record { hash = h; name = n.name; address = n.address })

abbrev pub meant : ℕ → Seen → Outcome Meaning
meant p n = told p n.hash n

-- where the text ends
unfoldable pub finish : State → Outcome Meaning
finish (going p n (prefix c w)) = refused no.link p
finish (going p n (naming k)) = refused no.link p
finish (going p n (urn c w)) = refused no.link p
finish (going p n (digits zero h)) = meant p (with Hash h n)
finish (going p n (digits (suc k) h)) = refused no.link p
finish (going p n (half k h x)) = refused no.link p
finish (going p n (value f v)) = meant p (with f v n)
finish (going p n (percent f v)) = refused no.link p
finish (going p n (digit f v x)) = refused no.link p
finish (stopped p) = refused no.link p

abbrev pub begun : State
begun = going 0 unsaid (prefixed (bytes "magnet:?"))

-- what a text says as a link
unfoldable pub read_of : List ℕ → Outcome Meaning
read_of s = cond (ltb most_text (length s)) (refused no.long 0) (finish (fed begun s))

-- ---- into lent outputs

-- how many bytes are said, and what an output holds after them
abbrev pub size_of : Said → ℕ
size_of absent = 0
size_of (said bs) = length bs

abbrev pub stored_in : Said → List ℕ → List ℕ
stored_in absent o = o
stored_in (said bs) o = sets o 0 bs

-- the answer's words for it
abbrev pub given_of : Said → Option ℕ
given_of absent = None
given_of (said bs) = Some (length bs)

pub record Sizes : Type 0 where
  pub name : Option ℕ
  pub address : Option ℕ

abbrev pub sizes_of : Meaning → Sizes
sizes_of m = record { name = given_of m.name; address = given_of m.address }

-- what a call leaves: its answer, and what is lent for the hash, the name and the address holds then
pub record Left : Type 0 where
  pub answer : Outcome Sizes
  pub hash : List ℕ
  pub name : List ℕ
  pub address : List ℕ

abbrev pub left : Outcome Sizes → List ℕ → List ℕ → List ℕ → Left
left a h d t = record { answer = a; hash = h; name = d; address = t }

abbrev pub room_for : Meaning → List ℕ → List ℕ → Bool
room_for m d t = leb (size_of m.name) (length d) && leb (size_of m.address) (length t)

-- 37 if either output is too short, and then nothing changes
abbrev pub decoded_to : List ℕ → List ℕ → List ℕ → Outcome Meaning → Left
decoded_to h d t (taken m) = cond (room_for m d t) (left (taken (sizes_of m)) m.hash (stored_in m.name d) (stored_in m.address t)) (left (refused no.room 0) h d t)
decoded_to h d t (refused n p) = left (refused n p) h d t

unfoldable pub left_of : List ℕ → List ℕ → List ℕ → List ℕ → Left
left_of s h d t = decoded_to h d t (read_of s)

-- the code's answer in document 02's words
abbrev pub linked_paper : Result (Option ℕ × Option ℕ) Refusal → Outcome Sizes
linked_paper (Ok (a, b)) = taken (record { name = a; address = b })
linked_paper (Err r) = refusal r
