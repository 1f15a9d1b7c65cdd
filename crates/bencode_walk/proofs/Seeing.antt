-- What stands at a place p of a text s, case by case as the code meets it. Assumes nothing.
use Rattle.std.specs.Prelude.{Err, Ok, Result}
use Rattle.bencode.specs.declared.Cursor.{Cursor}
use mathlib.Core.Path.{◌≡◌, refl, sym, ap, ◌∙◌}
use mathlib.Core.Bool.{Bool, true, false}
use mathlib.Core.List.{List, [], ◌∷◌}
use Prim.Native.Nat.{ℕ, ◌+◌, ◌-◌, ◌<◌, ◌≤◌, ◌^◌, min}
use native.Mathlib.Omega.{arith}
use lib.Dec.{ltb}
use lib.IntN.{ℤ, pos, negsuc}
use mir.Syntax.{w64}
use mir.Val.{SFits}
use lib.ListN.{length, get_or, take, drop, length-append, length-drop, length-take, drop_of_length-le}
use lib.Seq.{take_all, take-nil, drop-length}
use borrow.Author.Tests.{ne_eqb, ltb-true, ltb-false}
use Rattle.refusal.specs.Paper.{Outcome, taken, refused, refusal}
use Rattle.refusal.specs.Numbers.{cut, long as too_long_of}
use Rattle.refusal.specs.Limits.{most_text}
use Rattle.refusal.specs.declared.Refusal.{Refusal}
use Rattle.refusal.specs.declared.Part.{Part}
use Rattle.refusal.proofs.Cases.{no_way}
use Rattle.bencode_scalar.specs.Written.{signed, in_range}
use Rattle.bencode_scalar.specs.Reading.{Got, got, bad, on_head, string_at, integer_at}
use Rattle.bencode_scalar.specs.Answers.{text_of, integer_is}
use Rattle.bencode_scalar.specs.declared.Int.TheVariants.{Is, Large}
use Rattle.bencode_scalar.proofs.Forms.{at_head, at_byte}
use Rattle.bencode_scalar.proofs.Sound.{Holds, IntP, integer-at-sound}
use Rattle.bencode.specs.Value.{Value}
use Rattle.bencode.specs.Answers.{step_of}
use Rattle.bencode_scalar.proofs.Determined.{whole-inside}
use Rattle.bencode_walk.specs.Walk.{Head, string, list, dictionary, end, string_head, string_seen, integer_seen, look_at_of, look_of, past_of}
use Rattle.bencode_walk.proofs.Limited.{unless-long, unless-short}

-- a string
module _ (s : List ℕ) (p : ℕ) where
  pub whole-seen : (b : Part) → p ≤ length s → text_of s 0 (Ok b) ≡ string_at (length s) (drop p s) p 0 → taken (string b.from b.len (b.from + b.len)) ≡ string_seen s p
  whole-seen b h e =
      let a = b.from in
      let m = b.len in
      let i : a + m ≤ length s = whole-inside s p b h e in
      let k : length (take m (drop a s)) ≡ m = length-take m (drop a s) ∙ omega (arith, length-drop a s) in
      let f : a + m - length (take m (drop a s)) ≡ a = omega arith in
      sym (ap string_head (sym e) ∙ rw (f, k))

-- an integer that is answered fits 64 bits
pub range-fits : (z : ℤ) → in_range z ≡ true → SFits w64 z
range-fits (pos n) e = record { sfits = ltb-true n (2 ^ 63) e }
range-fits (negsuc n) e = record { sfits = ltb-true n (2 ^ 63) e }

-- an integer, by the code's answer
module _ (p : ℕ) where
  wide_by : (l : List ℕ) (g : Got ℤ) → Holds (IntP l p 0) g → (q : ℕ) → (Ok (Large q)) ≡ integer_is g → p + 2 ≤ q
  wide_by l (got z r o m) h q e = go (in_range z) refl
    where
      go : (t : Bool) → in_range z ≡ t → p + 2 ≤ q
      go true x = let f : (Ok (Large q)) ≡ (Ok (Is z o)) = e ∙ rw x in no_way (cc)
      go false x =
          let f : (Ok (Large q)) ≡ (Ok (Large o)) = e ∙ rw x in
          let k : q ≡ o = cc in
          omega (arith, h.0.place, length-append (signed z) (101 ∷ []))
  wide_by l (bad r o) h q e = no_way (cc)

  -- an integer has an i and an e
  pub wide : (s : List ℕ) (q : ℕ) → (Ok (Large q)) ≡ integer_is (integer_at (length s) (drop p s) p 0) → p + 2 ≤ q
  wide s q e = wide_by (drop p s) (integer_at (length s) (drop p s) p 0) (integer-at-sound (length s) (drop p s) p 0) q e

-- by the byte at p
abbrev pub by_head : List ℕ → ℕ → List ℕ → Outcome Head
by_head s p l = on_head l (refused cut (length s)) (λ b t. look_at_of s p b)

module _ (s : List ℕ) (p : ℕ) where
  pub look-long : most_text < length s → refused too_long_of 0 ≡ look_of s p
  unfolding look_of
  look-long l = unless-long s _ l

  -- of a text that is not too long, the bytes at p alone decide
  module _ (l : length s ≤ most_text) where
    pub look-short : by_head s p (drop p s) ≡ look_of s p
    unfolding look_of
    look-short = unless-short s _ l

    pub look-out : length s ≤ p → refused cut (length s) ≡ look_of s p
    look-out h = sym (ap (by_head s p) (drop_of_length-le s h)) ∙ look-short

    module _ (h : p < length s) where
      look-byte : (b : ℕ) → get_or s p 0 ≡ b → look_at_of s p b ≡ look_of s p
      look-byte b e = sym (ap (by_head s p) (at_byte s p b h e)) ∙ look-short

      pub look-integer : get_or s p 0 ≡ 105 → integer_seen s p ≡ look_of s p
      look-integer e = look-byte 105 e

      pub look-list : get_or s p 0 ≡ 108 → taken (list (p + 1)) ≡ look_of s p
      look-list e = look-byte 108 e

      pub look-dictionary : get_or s p 0 ≡ 100 → taken (dictionary (p + 1)) ≡ look_of s p
      look-dictionary e = look-byte 100 e

      pub look-end : get_or s p 0 ≡ 101 → taken (end (p + 1)) ≡ look_of s p
      look-end e = look-byte 101 e

      pub look-string : (get_or s p 0 ≡ 105 → ⊥) → (get_or s p 0 ≡ 108 → ⊥) → (get_or s p 0 ≡ 100 → ⊥) → (get_or s p 0 ≡ 101 → ⊥) → string_seen s p ≡ look_of s p
      look-string i o d e = sym (ap (by_head s p) (at_head s p h) ∙ rw (ne_eqb _ _ i, ne_eqb _ _ o, ne_eqb _ _ d, ne_eqb _ _ e)) ∙ look-short

-- the place past a value, by the reader's answer
abbrev pub by_step : Result Cursor Refusal → Outcome ℕ
by_step (Ok c) = taken c.at
by_step (Err r) = refusal r

pub past_by : (g : Got Value) → by_step (step_of g) ≡ past_of g
past_by (got v l q n) = refl
past_by (bad r p) = refl

-- a part of a text, as far as the text goes
part_by : (s : List ℕ) (a m : ℕ) → (t : Bool) → ltb a (length s) ≡ t → take (min a (length s) + min m (length s - min a (length s)) - min a (length s)) (drop (min a (length s)) s) ≡ take m (drop a s)
part_by s a m true e =
    let h = ltb-true a (length s) e in
    let f : min a (length s) ≡ a = omega arith in
    rw f (within (ltb m (length s - a)) refl)
  where
    within : (t : Bool) → ltb m (length s - a) ≡ t → take (a + min m (length s - a) - a) (drop a s) ≡ take m (drop a s)
    within true x = let k = ltb-true m (length s - a) x in let g : a + min m (length s - a) - a ≡ m = omega arith in rw g
    within false x =
        let k = ltb-false m (length s - a) x in
        let g : a + min m (length s - a) - a ≡ length s - a = omega arith in
        rw g (take_all (length s - a) (drop a s) (omega (arith, length-drop a s)) ∙ sym (take_all m (drop a s) (omega (arith, length-drop a s))))
part_by s a m false e =
    let h = ltb-false a (length s) e in
    let f : min a (length s) ≡ length s = omega arith in
    let o : drop a s ≡ [] = drop_of_length-le s h in
    let q : drop (length s) s ≡ [] = drop-length s in
    let n : ℕ = min a (length s) + min m (length s - min a (length s)) - min a (length s) in
    ap (take n) (ap (λ (i : ℕ). drop i s) f ∙ q) ∙ take-nil n ∙ sym (ap (take m) o ∙ take-nil m)

pub part-there : (s : List ℕ) (a m f n : ℕ) → f ≡ min a (length s) → n ≡ min m (length s - f) → take (f + n - f) (drop f s) ≡ take m (drop a s)
part-there s a m f n x y = rw (y, x) (part_by s a m (ltb a (length s)) refl)
