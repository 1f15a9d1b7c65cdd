-- What a typed look finds at a place of any text. Assumes nothing: these are definitions.
-- They serve the contracts inside readers and need not be believed: `string-is`, `natural-is`, `list-is` and `dictionary-is` of bencode_fields/proofs/Standing.antt tie them to Values.antt.
use Rattle.std.specs.Prelude.{cond, List, ℕ, suc, leb, length, ℤ, pos, negsuc}
use Rattle.refusal.specs.Paper.{Outcome, taken, refused, map, then}
use Rattle.refusal.specs.Numbers.{byte, kind, range}
use Rattle.refusal.specs.declared.Part.{Part}
use Rattle.bencode_walk.specs.Walk.{Head, string, integer, long, list, dictionary, end, look_of, Hit, found, missing, seek_of}

-- a number n and the place q past it
abbrev pub ending_at : ℕ → ℕ → ℕ × ℕ
ending_at q n = (n, q)

-- the integer z at p as a number from 0 to most; else 11
abbrev pub ranged : ℕ → ℕ → ℤ → Outcome ℕ
ranged most p (pos n) = cond (leb n most) (taken n) (refused range p)
ranged most p (negsuc n) = refused range p

-- a string's bytes; another kind is 10, and an e, where no value stands, is 2
abbrev pub string_in : ℕ → Head → Outcome Part
string_in p (string a m q) = taken (record { from = a; len = m })
string_in p (integer z q) = refused kind p
string_in p (long a m q) = refused kind p
string_in p (list q) = refused kind p
string_in p (dictionary q) = refused kind p
string_in p (end q) = refused byte p

-- a number from 0 to most; an integer outside 64 bits is out of range too
abbrev pub natural_in : ℕ → ℕ → Head → Outcome ℕ
natural_in most p (string a m q) = refused kind p
natural_in most p (integer z q) = ranged most p z
natural_in most p (long a m q) = refused range p
natural_in most p (list q) = refused kind p
natural_in most p (dictionary q) = refused kind p
natural_in most p (end q) = refused byte p

-- the same, with the place past it
abbrev pub number_in : ℕ → ℕ → Head → Outcome (ℕ × ℕ)
number_in most p (string a m q) = refused kind p
number_in most p (integer z q) = map (ending_at q) (ranged most p z)
number_in most p (long a m q) = refused range p
number_in most p (list q) = refused kind p
number_in most p (dictionary q) = refused kind p
number_in most p (end q) = refused byte p

-- the place of a list's first item
abbrev pub list_in : ℕ → Head → Outcome ℕ
list_in p (string a m q) = refused kind p
list_in p (integer z q) = refused kind p
list_in p (long a m q) = refused kind p
list_in p (list q) = taken q
list_in p (dictionary q) = refused kind p
list_in p (end q) = refused byte p

-- the place of a dictionary's first key
abbrev pub dictionary_in : ℕ → Head → Outcome ℕ
dictionary_in p (string a m q) = refused kind p
dictionary_in p (integer z q) = refused kind p
dictionary_in p (long a m q) = refused kind p
dictionary_in p (list q) = refused kind p
dictionary_in p (dictionary q) = taken q
dictionary_in p (end q) = refused byte p

-- what stands at p of the text s, as the kind that is asked for
abbrev pub string_of : List ℕ → ℕ → Outcome Part
string_of s p = then (look_of s p) (string_in p)

abbrev pub natural_of : ℕ → List ℕ → ℕ → Outcome ℕ
natural_of most s p = then (look_of s p) (natural_in most p)

abbrev pub number_of : ℕ → List ℕ → ℕ → Outcome (ℕ × ℕ)
number_of most s p = then (look_of s p) (number_in most p)

abbrev pub list_of : List ℕ → ℕ → Outcome ℕ
list_of s p = then (look_of s p) (list_in p)

abbrev pub dictionary_of : List ℕ → ℕ → Outcome ℕ
dictionary_of s p = then (look_of s p) (dictionary_in p)

-- a key that must be there, sought in the dictionary at d: f of its value's place; missing it is 10 at d
abbrev pub hit_at : {A : Type 0} → ℕ → (ℕ → Outcome A) → Hit → Outcome A
hit_at d f (found p q) = f q
hit_at d f (missing p) = refused kind d

abbrev pub needed : {A : Type 0} → ℕ → Outcome Hit → (ℕ → Outcome A) → Outcome A
needed d o f = then o (hit_at d f)

-- a key of s sought from p on, and a later one from where that search stopped
abbrev pub sought_from : List ℕ → ℕ → List ℕ → Outcome Hit
sought_from s p k = seek_of (suc (length s)) s p k

abbrev pub stopped : Hit → ℕ
stopped (found p q) = p
stopped (missing p) = p

abbrev pub sought_after : List ℕ → Outcome Hit → List ℕ → Outcome Hit
sought_after s o k = then o (λ h. sought_from s (stopped h) k)
