-- Where a value stands, a typed look tells what is asked of that value. Assumes nothing.
use mathlib.Core.Path.{◌≡◌, refl, sym, ap, ◌∙◌}
use mathlib.Core.Bool.{true, false}
use mathlib.Core.List.{List, ◌∷◌}
use Prim.Native.Nat.{ℕ, suc, ◌+◌, ◌<◌, ◌^◌}
use native.Mathlib.Omega.{arith}
use lib.IntN.{ℤ, pos, negsuc}
use lib.ListN.{length, take, drop, length-append}
use borrow.Author.Tests.{ltb-false, lt-leb}
use Rattle.refusal.specs.Paper.{Outcome, taken, refused, then, map}
use Rattle.refusal.specs.Numbers.{range}
use Rattle.refusal.proofs.Cases.{by-test}
use Rattle.bencode_scalar.specs.Written.{decimal, written_string, signed, in_range}
use Rattle.bencode.specs.Value.{Value, Items, Entries, str, int, list as list', dict, encode}
use Rattle.bencode_walk.specs.Walk.{Head, string, integer, long, list, dictionary, look_of}
use Rattle.bencode_walk.specs.Stands.{Stands}
use Rattle.bencode_walk.proofs.Standing.{Bytes, string-stands, integer-stands, list-stands, dictionary-stands}
use Rattle.bencode_walk.proofs.Telling.{string-from}
use Rattle.bencode_fields.specs.Looks.{ending_at, ranged, string_in, natural_in, number_in, list_in, dictionary_in, string_of, natural_of, number_of, list_of, dictionary_of}
use Rattle.bencode_fields.specs.Values.{part_of, string_at, natural_at, list_at_of, dictionary_at}

module _ (s : List ℕ) (d p : ℕ) where
  -- where a string stands, its bytes begin past its length and colon
  pub begins : (bs : List ℕ) (b : Bytes s p bs) → b.from ≡ p + suc (length (decimal (length bs)))
  begins bs b =
      let e = string-from s d p b.from (length bs) (p + length (written_string bs)) b.seen in
      omega (arith, length-append (decimal (length bs)) (58 ∷ bs))

  -- the part of a string that stands at p is its bytes
  pub part_bytes : (bs : List ℕ) → Stands s d p (str bs) → take (part_of p bs).len (drop (part_of p bs).from s) ≡ bs
  part_bytes bs t = let b = string-stands s d p bs t in ap (λ (a : ℕ). take (length bs) (drop a s)) (sym (begins bs b)) ∙ b.bytes

  -- by the kind of the value: what f says of a string, an integer, a list, a dictionary at p is what g says of the value
  module _ {A : Type 0} (f : Head → Outcome A) (g : Value → Outcome A) where
    seen : {h : Head} {y : Outcome A} → look_of s p ≡ taken h → f h ≡ y → then (look_of s p) f ≡ y
    seen e k = ap (λ (o : Outcome Head). then o f) e ∙ k

    pub look_is : ((bs : List ℕ) → f (string (part_of p bs).from (length bs) (p + length (encode (str bs)))) ≡ g (str bs))
        → ((z : ℤ) → in_range z ≡ true → f (integer z (p + length (encode (int z)))) ≡ g (int z)) → ((z : ℤ) → in_range z ≡ false → f (long (p + 1) (length (signed z)) (p + length (encode (int z)))) ≡ g (int z))
        → ((vs : Items) → f (list (p + 1)) ≡ g (list' vs)) → ((es : Entries) → f (dictionary (p + 1)) ≡ g (dict es))
        → (v : Value) → Stands s d p v → then (look_of s p) f ≡ g v
    unfolding encode
    look_is a b o c e (str bs) t = let h = string-stands s d p bs t in seen h.seen (ap (λ (i : ℕ). f (string i (length bs) (p + length (written_string bs)))) (begins bs h) ∙ a bs)
    look_is a b o c e (int z) t = seen (integer-stands s d p z t) (by-test (λ (h : Head). f h ≡ g (int z)) (in_range z) (b z) (o z))
    look_is a b o c e (list' vs) t = seen (list-stands s d p vs t).0 (c vs)
    look_is a b o c e (dict es) t = seen (dictionary-stands s d p es t).0 (e es)

  pub string-is : (v : Value) → Stands s d p v → string_of s p ≡ string_at p v
  string-is = look_is (string_in p) (string_at p) (λ bs. refl) (λ z i. refl) (λ z o. refl) (λ vs. refl) (λ es. refl)

  -- an integer outside 64 bits is out of every range within them
  outside : (most : ℕ) → most < 2 ^ 63 → (z : ℤ) → in_range z ≡ false → ranged most p z ≡ refused range p
  outside most h (pos n) o = let l = ltb-false n (2 ^ 63) o in rw (lt-leb n most (omega arith))
  outside most h (negsuc n) o = refl

  module _ (most : ℕ) (h : most < 2 ^ 63) where
    pub natural-is : (v : Value) → Stands s d p v → natural_of most s p ≡ natural_at most p v
    natural-is = look_is (natural_in most p) (natural_at most p) (λ bs. refl) (λ z i. refl) (λ z o. sym (outside most h z o)) (λ vs. refl) (λ es. refl)

    pub number_is : (v : Value) → Stands s d p v → number_of most s p ≡ map (ending_at (p + length (encode v))) (natural_at most p v)
    number_is =
        look_is (number_in most p) (λ v. map (ending_at (p + length (encode v))) (natural_at most p v)) (λ bs. refl) (λ z i. refl)
        (λ z o. ap (map (ending_at (p + length (encode (int z))))) (sym (outside most h z o))) (λ vs. refl) (λ es. refl)

  -- the first thing in a list or dictionary stands one past its place
  pub list-is : (v : Value) → Stands s d p v → list_of s p ≡ map (λ vs. p + 1) (list_at_of p v)
  list-is = look_is (list_in p) (λ v. map (λ vs. p + 1) (list_at_of p v)) (λ bs. refl) (λ z i. refl) (λ z o. refl) (λ vs. refl) (λ es. refl)

  pub dictionary-is : (v : Value) → Stands s d p v → dictionary_of s p ≡ map (λ es. p + 1) (dictionary_at p v)
  dictionary-is = look_is (dictionary_in p) (λ v. map (λ es. p + 1) (dictionary_at p v)) (λ bs. refl) (λ z i. refl) (λ z o. refl) (λ vs. refl) (λ es. refl)
