-- Demand 1 of `bencode_scalar`: strings and integers at a place, and the order of keys. Assumes nothing.
use Rattle.refusal.specs.declared.Part.{Part}
use Rattle.refusal.specs.declared.Refusal.{Refusal}
use Rattle.std.specs.Prelude.{Bool, List, ◌≡◌, ℕ, length, drop, Result}
use Rattle.bencode_scalar.specs.Answers.{text_of, integer_is}
use Rattle.bencode_scalar.specs.Reading.{is_digit, string_at, integer_at}
use Rattle.bencode_scalar.specs.Written.{key_lt}
use Rattle.bencode_scalar.specs.declared.Int.{Int}
use Rattle.demands.specs.One.{Lent, now}

-- bencode_scalar::digit
abbrev pub digit-ensures : (b : ℕ) → Bool → Type 0
digit-ensures b r = r ≡ is_digit b

-- bencode_scalar::string
abbrev pub string-ensures : (text : Lent (List ℕ)) (at : ℕ) → Result Part Refusal → Type 0
string-ensures text at r = ((n : ℕ) → text_of (now text.entry) n r ≡ string_at (length (now text.entry)) (drop at (now text.entry)) at n)

-- bencode_scalar::integer
abbrev pub integer-ensures : (text : Lent (List ℕ)) (at : ℕ) → Result Int Refusal → Type 0
integer-ensures text at r = ((n : ℕ) → r ≡ integer_is (integer_at (length (now text.entry)) (drop at (now text.entry)) at n))

-- bencode_scalar::precedes
abbrev pub precedes-ensures : (a b : Lent (List ℕ)) → Bool → Type 0
precedes-ensures a b r = r ≡ key_lt (now a.entry) (now b.entry)
