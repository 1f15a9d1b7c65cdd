-- What the definitions of strings and integers come to at a place p of a text s, case by case as the code meets them. Assumes nothing.
use Rattle.std.proofs.Common.{Result, Ok, Err, IsErrAnd, ◌≡◌, refl, sym, ap, ◌∙◌, Bool, true, false, List, ◌∷◌, ℕ, zero, suc, ◌+◌, ◌-◌, ◌<◌, ◌≤◌, ◌^◌, min, pred, pos, negsuc, ◌-ℤ◌, length, get_or, drop, arith, add-one, ltb, drop_of_length-le}
use lib.Seq.{drop-cons, drop-drop}
use borrow.Author.Tests.{lt-ltb, le-ltb, le-leb, lt-leb, ne_eqb}
use Rattle.refusal.specs.declared.Refusal.{Refusal}
use Rattle.refusal.specs.Numbers.{cut, byte}
use Rattle.bencode_scalar.specs.Reading.{got, bad, is_digit, num_val, num_len, colon_of, string_of, string_at, signed_as, integer_end, closed_of, minus_at, integer_of, integer_at}
use Rattle.bencode_scalar.specs.Answers.{text_of}
use Rattle.bencode_scalar.specs.Steps.{ByteAt, Missing, out, other}
use Rattle.bencode_scalar.proofs.Decimal.{cap}

-- a refusal that was passed on
pub passed_on : {A : Type 0} (r : Result A Refusal) (e : Refusal) → IsErrAnd r (λ x. x ≡ e) → r ≡ Err e
passed_on (Ok x) e h = absurd h
passed_on (Err x) e h = ap Err h

pub at_head : (s : List ℕ) (p : ℕ) → p < length s → drop p s ≡ get_or s p 0 ∷ drop (p + 1) s
at_head s p h = drop-cons s p 0 h ∙ rw add-one

pub at_byte : (s : List ℕ) (p b : ℕ) → p < length s → get_or s p 0 ≡ b → drop p s ≡ b ∷ drop (p + 1) s
at_byte s p b h x = at_head s p h ∙ rw x

-- after the digits
after-digits : (s : List ℕ) (b q c : ℕ) → c ≡ q + num_len b (drop q s) → drop (num_len b (drop q s)) (drop q s) ≡ drop c s
after-digits s b q c h = drop-drop (num_len b (drop q s)) q s ∙ ap (λ (i : ℕ). drop i s) (sym h)

-- a string that begins at p
module _ (s : List ℕ) (p n : ℕ) where
  pub string-other : p < length s → is_digit (get_or s p 0) ≡ false → bad byte p ≡ string_at (length s) (drop p s) p n
  string-other h d = rw (at_head s p h, d)

  -- its first digit is b, its digits end at c, and v is its length as the code read it
  module _ {b : ℕ} (f : ByteAt s p b) (d : is_digit b ≡ true) {c v : ℕ} (hc : c ≡ p + 1 + num_len b (drop (p + 1) s)) (hv : v ≡ min (num_val b (drop (p + 1) s)) cap) where
    colon-here : string_at (length s) (drop p s) p n ≡ colon_of (length s) c (num_val b (drop (p + 1) s)) (drop c s) n
    unfolding string_of
    colon-here = rw (at_byte s p b f.inside f.here, d) refl
        ∙ ap (λ (i : ℕ). colon_of (length s) i (num_val b (drop (p + 1) s)) (drop (num_len b (drop (p + 1) s)) (drop (p + 1) s)) n) (sym hc)
        ∙ ap (λ (l : List ℕ). colon_of (length s) c (num_val b (drop (p + 1) s)) l n) (after-digits s b (p + 1) c hc)

    pub string-is : ByteAt s c 58 → length s < cap → v ≤ length s - (c + 1) → text_of s n (Ok (record { from = c + 1; len = v })) ≡ string_at (length s) (drop p s) p n
    string-is g m l =
        let w : num_val b (drop (p + 1) s) ≡ v = omega arith in
        sym (colon-here ∙ rw (at_byte s c 58 g.inside g.here, w, le-leb v (length s - (c + 1)) l, drop-drop v (c + 1) s))

    pub string-long : ByteAt s c 58 → length s < cap → length s - (c + 1) < v → bad cut (length s) ≡ string_at (length s) (drop p s) p n
    string-long g m l = sym (colon-here ∙ rw (at_byte s c 58 g.inside g.here, lt-leb (num_val b (drop (p + 1) s)) (length s - (c + 1)) (omega arith)))

    pub string-missing : {r : Refusal} → Missing s c 58 r → bad r.number r.place ≡ string_at (length s) (drop p s) p n
    string-missing (out k e) = rw e (sym (colon-here ∙ rw (drop_of_length-le s k)))
    string-missing (other k x e) = rw e (sym (colon-here ∙ rw (at_head s c k, ne_eqb _ _ x)))

  module _ (h : p < length s) (d : is_digit (get_or s p 0) ≡ true) (c v : ℕ) (hc : c ≡ p + 1 + num_len (get_or s p 0) (drop (p + 1) s)) (hv : v ≡ min (num_val (get_or s p 0) (drop (p + 1) s)) cap) where
    pub string-whole : c < length s → length s < cap → get_or s c 0 ≡ 58 → v ≤ length s - (c + 1) → text_of s n (Ok (record { from = c + 1; len = v })) ≡ string_at (length s) (drop p s) p n
    string-whole k m x = string-is (record { inside = h; here = refl }) d hc hv (record { inside = k; here = x }) m

-- an integer's end: its digits, the first of which is b before q, end at c
module _ (s : List ℕ) (neg : Bool) (b q n c : ℕ) (hc : c ≡ q + num_len b (drop q s)) where
  end-here : closed_of neg (length s) b (drop q s) q n ≡ integer_end neg (length s) c (num_val b (drop q s)) (drop c s) n
  unfolding closed_of
  end-here = ap (λ (i : ℕ). integer_end neg (length s) i (num_val b (drop q s)) (drop (num_len b (drop q s)) (drop q s)) n) (sym hc)
      ∙ ap (λ (l : List ℕ). integer_end neg (length s) c (num_val b (drop q s)) l n) (after-digits s b q c hc)

  pub closed-whole : c < length s → get_or s c 0 ≡ 101 → closed_of neg (length s) b (drop q s) q n ≡ got (signed_as neg (num_val b (drop q s))) (drop (c + 1) s) (c + 1) n
  closed-whole h x = end-here ∙ rw (at_byte s c 101 h x)

  pub closed-missing : {r : Refusal} → Missing s c 101 r → closed_of neg (length s) b (drop q s) q n ≡ bad r.number r.place
  closed-missing (out h e) = rw e (end-here ∙ rw (drop_of_length-le s h))
  closed-missing (other h x e) = rw e (end-here ∙ rw (at_head s c h, ne_eqb _ _ x))

module _ (s : List ℕ) (p n : ℕ) where
  -- what stands after a minus
  pub minus-here : p < length s → (get_or s p 0 ≡ 48 → ⊥) → is_digit (get_or s p 0) ≡ true → minus_at (length s) (drop p s) p n ≡ closed_of true (length s) (get_or s p 0) (drop (p + 1) s) (p + 1) n
  minus-here h x d = rw (at_head s p h, ne_eqb _ _ x, d)

  -- what stands where an integer begins
  module _ (h : p < length s) (x : get_or s p 0 ≡ 105) where
    pub int-plus : p + 1 < length s → (get_or s (p + 1) 0 ≡ 45 → ⊥) → is_digit (get_or s (p + 1) 0) ≡ true
        → integer_at (length s) (drop p s) p n ≡ closed_of false (length s) (get_or s (p + 1) 0) (drop (p + 1 + 1) s) (p + 1 + 1) n
    unfolding integer_of
    int-plus k y d = rw (at_byte s p 105 h x, at_head s (p + 1) k, ne_eqb _ _ y, d)

    pub int-minus : p + 1 < length s → get_or s (p + 1) 0 ≡ 45 → integer_at (length s) (drop p s) p n ≡ minus_at (length s) (drop (p + 1 + 1) s) (p + 1 + 1) n
    unfolding integer_of
    int-minus k y = rw (at_byte s p 105 h x, at_byte s (p + 1) 45 k y)

-- by its digits as the code read them
module _ (n v q : ℕ) (h : v ≡ min n cap) where
  pub plus-fits : v < 2 ^ 63 → (n ≡ v) × (ltb n (2 ^ 63) ≡ true)
  plus-fits k = (omega arith, lt-ltb n (2 ^ 63) (omega arith))

  pub plus-large : 2 ^ 63 ≤ v → ltb n (2 ^ 63) ≡ false
  plus-large k = le-ltb n (2 ^ 63) (omega arith)

  pub minus-fits : 1 ≤ v → v - 1 < 2 ^ 63 → (pred n ≡ v - 1) × (ltb (pred n) (2 ^ 63) ≡ true)
  minus-fits m k = (omega arith, lt-ltb (pred n) (2 ^ 63) (omega arith))

  pub minus-large : 1 ≤ v → 2 ^ 63 ≤ v - 1 → ltb (pred n) (2 ^ 63) ≡ false
  minus-large m k = le-ltb (pred n) (2 ^ 63) (omega arith)

-- minus one, less k
pub one_less : (k : ℕ) → negsuc 0 -ℤ pos k ≡ negsuc k
one_less zero = refl
one_less (suc m) = let e : suc (0 + m) ≡ suc m = omega arith in ap negsuc e
