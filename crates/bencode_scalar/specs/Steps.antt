-- What the reader's own steps say of a text: what stands at a place, why it does not, and how an integer ends. Assumes nothing: these are definitions.
use Rattle.refusal.specs.declared.Refusal.{Refusal}
use Rattle.std.specs.Prelude.{◌≡◌, Bool, List, ℕ, ◌<◌, ◌≤◌, min, length, get_or, drop, Err, Ok, Result}
use Rattle.refusal.specs.Numbers.{cut, byte}
use Rattle.bencode_scalar.specs.declared.Run.{Run}
use Rattle.bencode_scalar.specs.Reading.{got, bad, num_val, signed_as, closed_of}

-- as far as a number is added up
abbrev pub top : ℕ
top = 18446744073709551615

-- the byte b stands at p
pub record ByteAt (s : List ℕ) (p b : ℕ) : Type 0 where
  pub inside : p < length s
  pub here : get_or s p 0 ≡ b

-- no byte b stands at p, for which r refuses
pub data Missing (s : List ℕ) (p b : ℕ) (r : Refusal) : Type 0 where
  out : length s ≤ p → r ≡ record { number = cut; place = length s } → Missing s p b r
  other : p < length s → (get_or s p 0 ≡ b → ⊥) → r ≡ record { number = byte; place = p } → Missing s p b r

-- what the digits of an integer come to, the first of which is b before p, and its e
abbrev pub Closes : List ℕ → ℕ → ℕ → Result Run Refusal → Type 0
Closes s b p (Ok run) =
    let m : ℕ = num_val b (drop p s) in
    (run.value ≡ min m top) × ((neg : Bool) (n : ℕ) → closed_of neg (length s) b (drop p s) p n ≡ got (signed_as neg m) (drop run.next s) run.next n)
Closes s b p (Err r) = (neg : Bool) (n : ℕ) → closed_of neg (length s) b (drop p s) p n ≡ bad r.number r.place
