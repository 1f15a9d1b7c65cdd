-- The short ways past a string or an integer at a place p of a text s come to what the definitions read there. Assumes nothing.
use Rattle.std.specs.Prelude.{Ok}
use mathlib.Core.Path.{◌≡◌, refl, sym, ap, ◌∙◌}
use mathlib.Core.Bool.{Bool, true, false}
use mathlib.Core.List.{List}
use Prim.Native.Nat.{ℕ, ◌+◌, ◌*◌, ◌-◌, ◌<◌, ◌≤◌}
use native.Mathlib.Omega.{arith}
use native.Mathlib.Nat.{add-zero}
use lib.Dec.{eqb}
use lib.ListN.{length, get_or, drop}
use borrow.Author.Tests.{ne_eqb, eqb-true}
use Rattle.bencode_scalar.specs.Reading.{is_digit, num_val, num_len, digits_val, digits_len, string_at, closed_of, minus_at, integer_at}
use Rattle.bencode_scalar.specs.Answers.{text_of}
use Rattle.bencode_scalar.proofs.Decimal.{cap, Passing, passing-stop, Reading, digit-range, val-more, val-stop, len_more, len-stop, reading-stop}
use Rattle.bencode_scalar.proofs.Forms.{string-whole, closed-whole, minus-here, int-plus, int-minus}
use Rattle.bencode.specs.Answers.{step_of, Held, Ended}

-- a number of one digit b, before q, and of two
module _ (s : List ℕ) (b q : ℕ) (l : q < length s) where
  one-by : is_digit (get_or s q 0) ≡ false → (t : Bool) → eqb b 48 ≡ t → (num_len b (drop q s) ≡ 0) × (num_val b (drop q s) ≡ b - 48)
  one-by x true e = let z = eqb-true b 48 e in (rw e, rw e (omega arith))
  one-by x false e = (rw e (len-stop s q l x), rw e (val-stop s q (b - 48) l x))

  one : is_digit (get_or s q 0) ≡ false → (num_len b (drop q s) ≡ 0) × (num_val b (drop q s) ≡ b - 48)
  one x = one-by x (eqb b 48) refl

  two : (b ≡ 48 → ⊥) → is_digit (get_or s q 0) ≡ true → q + 1 < length s → is_digit (get_or s (q + 1) 0) ≡ false
      → (num_len b (drop q s) ≡ 1) × (num_val b (drop q s) ≡ (b - 48) * 10 + (get_or s q 0 - 48))
  two z d k x = let e = ne_eqb b 48 z in (
    rw e (omega (arith, len_more s q l d, len-stop s (q + 1) k x)),
    rw e (val-more s q (b - 48) l d ∙ val-stop s (q + 1) ((b - 48) * 10 + (get_or s q 0 - 48)) k x),
  )

-- a string by its colon at c, whose digits stand for v
module _ (s : List ℕ) (p n c v : ℕ) (l : p < length s) (m : length s < cap) (d : is_digit (get_or s p 0) ≡ true) where
  string-by : c ≡ p + 1 + num_len (get_or s p 0) (drop (p + 1) s) → v ≡ num_val (get_or s p 0) (drop (p + 1) s) → c < length s → get_or s c 0 ≡ 58 → c + 1 + v ≤ length s
      → text_of s n (Ok (record { from = c + 1; len = v })) ≡ string_at (length s) (drop p s) p n
  string-by hc hv k x f = string-whole s p n l d c v hc (omega arith) k m x (omega arith)

-- one whose length has one or two digits, by what `within` answers
module _ (s : List ℕ) (p n r : ℕ) (m : length s < cap) (d : is_digit (get_or s p 0) ≡ true) where
  pub one-whole : p + 1 < length s → get_or s (p + 1) 0 ≡ 58 → (z : ℕ) → z ≡ get_or s p 0 - 48 → (r < 100 → (r ≡ z) × (p + 2 + z ≤ length s)) → r < 100
      → text_of s n (Ok (record { from = p + 2; len = r })) ≡ string_at (length s) (drop p s) p n
  one-whole h x z y w k =
      let u = one s (get_or s p 0) (p + 1) h (rw x) in
      let v : r ≡ z = (w k).0 in
      let i : p + 2 + z ≤ length s = (w k).1 in
      let g : p + 2 ≡ p + 1 + 1 = omega arith in
      rw g (string-by s p n (p + 1) r (omega arith) m d (omega (arith, u.0)) (omega (arith, u.1)) h x (omega arith))

  pub two-whole : p + 2 < length s → (get_or s p 0 ≡ 48 → ⊥) → is_digit (get_or s (p + 1) 0) ≡ true → get_or s (p + 2) 0 ≡ 58
      → (z : ℕ) → z ≡ (get_or s p 0 - 48) * 10 + (get_or s (p + 1) 0 - 48) → (r < 100 → (r ≡ z) × (p + 3 + z ≤ length s)) → r < 100
      → text_of s n (Ok (record { from = p + 3; len = r })) ≡ string_at (length s) (drop p s) p n
  two-whole h q e x z y w k =
      let a : p + 1 + 1 ≡ p + 2 = omega arith in
      let u = two s (get_or s p 0) (p + 1) (omega arith) q e (omega arith) (rw (a, x)) in
      let v : r ≡ z = (w k).0 in
      let i : p + 3 + z ≤ length s = (w k).1 in
      let g : p + 3 ≡ p + 2 + 1 = omega arith in
      rw g (string-by s p n (p + 2) r (omega arith) m d (omega (arith, u.0)) (omega (arith, u.1)) h x (omega arith))

-- the digits of a string's length, by what `held` answers
pub held-digits : (s : List ℕ) (at acc i v r : ℕ) → length s < cap → Reading s at acc i v → i < length s → is_digit (get_or s i 0) ≡ false → Held s i v r
    → Held s (at + digits_len (drop at s)) (digits_val acc (drop at s)) r
held-digits s at acc i v r m w l x e =
    let u = reading-stop s at acc w l x in
    let y : digits_val acc (drop at s) ≡ v = omega (arith, u.0, e.ends) in
    rw (← u.1, y) e

module _ (s : List ℕ) (p n r : ℕ) (l : p < length s) (m : length s < cap) (d : is_digit (get_or s p 0) ≡ true) where
  abbrev read-string : Type 0
  read-string = Ok (record { at = r; count = n }) ≡ step_of (string_at (length s) (drop p s) p n)

  held_by : (c v : ℕ) → c ≡ p + 1 + num_len (get_or s p 0) (drop (p + 1) s) → v ≡ num_val (get_or s p 0) (drop (p + 1) s) → Held s c v r → read-string
  held_by c v hc hv e = rw e.past (ap step_of (string-by s p n c v l m d hc hv e.here e.colon e.ends))

  pub none-past : get_or s p 0 ≡ 48 → Held s (p + 1) 0 r → read-string
  none-past x e = held_by (p + 1) 0 (rw x (sym (add-zero (p + 1)))) (rw x) e

  pub some-past : (get_or s p 0 ≡ 48 → ⊥) → (a : ℕ) → a ≡ get_or s p 0 - 48 → Held s (p + 1 + digits_len (drop (p + 1) s)) (digits_val a (drop (p + 1) s)) r → read-string
  some-past z a y e =
      let o = ne_eqb (get_or s p 0) 48 z in
      held_by (p + 1 + digits_len (drop (p + 1) s)) (digits_val a (drop (p + 1) s)) (rw o) (rw (o, y)) e

-- the digits of an integer, by what `closing` answers
pub ended-digits : (s : List ℕ) (at i r : ℕ) → Passing s at i → i < length s → is_digit (get_or s i 0) ≡ false → Ended s i r → Ended s (at + digits_len (drop at s)) r
ended-digits s at i r w l x e = rw (← (passing-stop s at w l x)) e

-- an integer whose i stands at p
module _ (s : List ℕ) (p n r : ℕ) (h : p + 2 < length s) (x : get_or s p 0 ≡ 105) where
  abbrev goal : Type 0
  goal = Ok (record { at = r; count = n }) ≡ step_of (integer_at (length s) (drop p s) p n)

  plus-by : is_digit (get_or s (p + 1) 0) ≡ true → (c : ℕ) → c ≡ p + 2 + num_len (get_or s (p + 1) 0) (drop (p + 2) s) → Ended s c r → goal
  plus-by d c k e =
      let a : p + 1 + 1 ≡ p + 2 = omega arith in
      let z : get_or s (p + 1) 0 ≡ 45 → ⊥ = λ y. absurd (omega (arith, digit-range (get_or s (p + 1) 0) d)) in
      let i : integer_at (length s) (drop p s) p n ≡ closed_of false (length s) (get_or s (p + 1) 0) (drop (p + 2) s) (p + 2) n = int-plus s p n (omega arith) x (omega arith) z d ∙ rw a in
      sym (ap step_of (i ∙ closed-whole s false (get_or s (p + 1) 0) (p + 2) n c k e.here e.ends) ∙ rw e.past)

  pub zero-past : get_or s (p + 1) 0 ≡ 48 → Ended s (p + 2) r → goal
  zero-past y e = plus-by (rw y) (p + 2) (rw y (sym (add-zero (p + 2)))) e

  pub plus-past : (get_or s (p + 1) 0 ≡ 48 → ⊥) → is_digit (get_or s (p + 1) 0) ≡ true → Ended s (p + 2 + digits_len (drop (p + 2) s)) r → goal
  plus-past z d e = let o = ne_eqb (get_or s (p + 1) 0) 48 z in plus-by d (p + 2 + digits_len (drop (p + 2) s)) (rw o) e

  pub below-past : get_or s (p + 1) 0 ≡ 45 → Ok (record { at = r; count = n }) ≡ step_of (minus_at (length s) (drop (p + 2) s) (p + 2) n) → goal
  below-past y e =
      let a : p + 1 + 1 ≡ p + 2 = omega arith in
      let i : integer_at (length s) (drop p s) p n ≡ minus_at (length s) (drop (p + 2) s) (p + 2) n = int-minus s p n (omega arith) x (omega arith) y ∙ rw a in
      e ∙ ap step_of (sym i)

-- the digits after a minus before p
pub minus-past : (s : List ℕ) (p n r : ℕ) → p < length s → (get_or s p 0 ≡ 48 → ⊥) → is_digit (get_or s p 0) ≡ true → Ended s (p + 1 + digits_len (drop (p + 1) s)) r
    → Ok (record { at = r; count = n }) ≡ step_of (minus_at (length s) (drop p s) p n)
minus-past s p n r l z d e =
    let t = ne_eqb (get_or s p 0) 48 z in
    let k : p + 1 + digits_len (drop (p + 1) s) ≡ p + 1 + num_len (get_or s p 0) (drop (p + 1) s) = rw t in
    sym (ap step_of (minus-here s p n l z d ∙ closed-whole s true (get_or s p 0) (p + 1) n (p + 1 + digits_len (drop (p + 1) s)) k e.here e.ends) ∙ rw e.past)
