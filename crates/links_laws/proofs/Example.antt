-- Small links and texts that are none: what the reader answers, by computation. Assumes nothing.
use mathlib.Core.Path.{◌≡◌, refl}
use mathlib.Core.List.{List, [], ◌∷◌, ◌++◌}
use Prim.Native.Nat.{ℕ}
use Rattle.refusal.specs.Texts.{bytes}
use Rattle.refusal.specs.Paper.{Outcome, taken, refused}
use Rattle.bencode_walk.specs.Lookup.{same_key}
use Rattle.bencode_writer.specs.Escaped.{escaped_by}
use Rattle.links.specs.Link.{Said, absent, said, Meaning}
use Rattle.links.specs.Reading.{field_of, in_mode, fed, finish, read_of}
use Rattle.bencode_writer.specs.Escaped.{small_hex}
use Rattle.links.specs.Writing.{text_of}

abbrev hash : List ℕ
hash = 0x01 ∷ 0x23 ∷ 0x45 ∷ 0x67 ∷ 0x89 ∷ 0xab ∷ 0xcd ∷ 0xef ∷ 0xab ∷ 0xcd ∷ 0xef ∷ 0x01 ∷ 0x23 ∷ 0x45 ∷ 0x67 ∷ 0x89 ∷ 0xab ∷ 0xcd ∷ 0xef ∷ 0x01 ∷ []

-- its 40 digits, in either case
abbrev digits : List ℕ
digits = bytes "0123456789abcdefABCDEF0123456789aBcDeF01"

abbrev says : Said → Said → Outcome Meaning
says d t = taken (record { hash = hash; name = d; address = t })

-- with a name and an address, in any order, with escapes and a pair of no meaning; an empty name; no name
links : read_of (bytes "magnet:?xt=urn:btih:" ++ (digits ++ bytes "&dn=a%20b%2f%FF&tr=http://yard/ann?x=1"))
    ∷ read_of (bytes "magnet:?tr=http%3A%2F%2Fyard&x.pe=%00&dn=&xt=urn:btih:" ++ digits)
    ∷ read_of (bytes "magnet:?xt=urn:btih:" ++ digits)
    ∷ []
    ≡ says (said (97 ∷ 32 ∷ 98 ∷ 47 ∷ 255 ∷ [])) (said (bytes "http://yard/ann?x=1"))
    ∷ says (said []) (said (bytes "http://yard"))
    ∷ says absent absent
    ∷ []
unfolding read_of fed in_mode finish field_of same_key
links = refl

-- the end of a text that stops short: nothing but its head, no xt, 39 digits; an empty name; a second dn; no digit after "%"; a 41st digit; "#" in a value; another word before the digits
faults : read_of (bytes "magnet:?") ∷ read_of (bytes "magnet:?dn=a") ∷ read_of (bytes "magnet:?xt=urn:btih:0123456789abcdef0123456789abcdef0123456")
    ∷ read_of (bytes "magnet:?=a") ∷ read_of (bytes "magnet:?dn=a&dn=b") ∷ read_of (bytes "magnet:?dn=%zz") ∷ read_of (bytes "magnet:?xt=urn:btih:" ++ (digits ++ bytes "0"))
    ∷ read_of (bytes "magnet:?dn=a#b") ∷ read_of (bytes "magnet:?xt=urn:sha1:") ∷ read_of (bytes "http://yard") ∷ []
    ≡ refused 19 8 ∷ refused 19 12 ∷ refused 19 59 ∷ refused 19 8 ∷ refused 19 13 ∷ refused 19 12 ∷ refused 19 60 ∷ refused 19 12 ∷ refused 19 15 ∷ refused 19 0 ∷ []
unfolding read_of fed in_mode finish field_of same_key
faults = refl

-- as it is written
written : text_of hash (bytes "a b") (bytes "http://yard") ≡ bytes "magnet:?xt=urn:btih:0123456789abcdefabcdef0123456789abcdef01&dn=a%20b&tr=http%3A%2F%2Fyard"
unfolding text_of small_hex escaped_by
written = refl
