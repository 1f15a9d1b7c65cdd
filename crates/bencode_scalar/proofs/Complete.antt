-- A string or an integer that is written so is read. Assumes nothing.
use Rattle.std.proofs.Common.{◌≡◌, refl, ◌∙◌, true, false, List, [], ◌∷◌, ◌++◌, append_assoc, ℕ, suc, ◌+◌, ◌-◌, ◌≤◌, arith, ℤ, pos, negsuc, length, length-append}
use lib.Seq.{drop-append_seam, take-append_seam}
use borrow.Author.Tests.{le-leb, ne_eqb}
use Rattle.bencode_scalar.specs.Written.{decimal, written_string, signed, written_int}
use Rattle.bencode_scalar.specs.Reading.{got, is_digit, num_len, string_of, closed_of, integer_of}
use Rattle.bencode_scalar.proofs.Decimal.{digit-range}
use Rattle.bencode_scalar.proofs.Numbers.{Digits, digits, more-other}

-- a number, before a byte x that is no digit
pub numeral : (m x : ℕ) (r : List ℕ) → is_digit x ≡ false → Digits m (x ∷ r)
numeral m x r d = digits m (x ∷ r) (more-other m x d)

-- a string at the head of a list
pub record Key (e : ℕ) (k r : List ℕ) (p : ℕ) : Type 0 where
  pub first : ℕ
  pub rest : List ℕ
  pub text : written_string k ++ r ≡ first ∷ rest
  pub starts : is_digit first ≡ true
  pub reads : (n : ℕ) → string_of e first rest p n ≡ got k r (p + length (written_string k)) n

pub string-complete : (e : ℕ) (k r : List ℕ) (p : ℕ) → p + length (written_string k ++ r) ≡ e → Key e k r p
unfolding string_of
string-complete e k r p h =
    let m = numeral (length k) 58 (k ++ r) refl in
    let w : length (written_string k) ≡ length (decimal (length k)) + suc (length k) = length-append (decimal (length k)) (58 ∷ k) in
    let q : p + 1 + num_len m.first m.rest + 1 + length k ≡ p + length (written_string k) = omega (arith, m.size) in
    let l : length k ≤ e - (p + 1 + num_len m.first m.rest + 1) = omega (arith, m.size, length-append (written_string k) r) in
    record {
      first = m.first;
      rest = m.rest;
      text = append_assoc (decimal (length k)) (58 ∷ k) r ∙ m.text;
      starts = m.starts;
      reads = λ n. rw (m.left, m.value, le-leb (length k) (e - (p + 1 + num_len m.first m.rest + 1)) l, take-append_seam k r, drop-append_seam k r, q);
    }

-- an integer
pub int-complete : (e o : ℕ) (z : ℤ) (r : List ℕ) (n : ℕ) → integer_of e ((signed z ++ 101 ∷ []) ++ r) (o + 1) n ≡ got z r (o + length (written_int z)) n
unfolding integer_of closed_of
int-complete e o (pos m) r n =
    let c = numeral m 101 r refl in
    let d = digit-range c.first c.starts in
    let y : (c.first ≡ 45) → ⊥ = omega arith in
    let q : o + 1 + 1 + num_len c.first c.rest + 1 ≡ o + suc (length (decimal m ++ 101 ∷ [])) = omega (arith, c.size, length-append (decimal m) (101 ∷ [])) in
    rw (append_assoc (decimal m) (101 ∷ []) r, c.text, ne_eqb _ _ y, c.starts, c.left, c.value, q)
int-complete e o (negsuc m) r n =
    let c = numeral (suc m) 101 r refl in
    let q : o + 1 + 1 + 1 + num_len c.first c.rest + 1 ≡ o + suc (suc (length (decimal (suc m) ++ 101 ∷ []))) = omega (arith, c.size, length-append (decimal (suc m)) (101 ∷ [])) in
    rw (append_assoc (decimal (suc m)) (101 ∷ []) r, c.text, c.left, c.value, q, ne_eqb _ _ (c.not-zero (omega arith)), c.starts)
